pub mod MadeByIndex
