pub mod InForceRun
