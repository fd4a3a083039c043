pub mod RetentionTable
