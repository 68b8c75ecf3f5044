pub mod AllYears
