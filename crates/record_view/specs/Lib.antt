pub mod RecordView
