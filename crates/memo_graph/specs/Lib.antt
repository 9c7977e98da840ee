pub mod Digests
pub mod KeyLaws
pub mod Memos
pub mod PackedKeys
