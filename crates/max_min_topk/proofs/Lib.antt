pub mod KeyPairs
