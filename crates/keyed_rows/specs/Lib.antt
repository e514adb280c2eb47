pub mod KeyedRows
