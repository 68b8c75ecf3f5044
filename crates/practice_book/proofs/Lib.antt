pub mod PracticeContract
