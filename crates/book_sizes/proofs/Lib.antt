pub mod AllSizes
