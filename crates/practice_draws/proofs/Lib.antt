pub mod DrawnLists
