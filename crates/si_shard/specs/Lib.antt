-- What the contracts of the shards cite.
pub mod ShardIds
pub mod PresentTxns
pub mod ToldEdits
pub mod AppliedEdits
pub mod KeyChanges
pub mod KeyNotes
pub mod Counts
pub mod KeyStates
pub mod JournalShards
pub mod Shards
pub mod SingleEdits
pub mod Laws
