-- A memo may be sent to another thread, and so may a key with its digest.
use Rattle.std.proofs.Crossing.{crosses}
use Rattle.std.proofs.MapsCrossing as maps
use denote.Struct.Declared.{shape}
use denote.Param.Send.{IsSend, IsSync, view_send, recorded_send, struct_send, AllSend, sendable}
use Rattle.lru.proofs.Crosses.{KeyRef-send, List-send, Deed-send}
use Rattle.memo_graph.specs.contracts.hashed_key.HashedKey as HashedKey
use Rattle.memo_graph.specs.contracts.memo.Memo as Memo
use Rattle.memo_graph.specs.contracts.memo.Memo.TheInside as Inside

pub key_send : IsSend HashedKey.the_row
key_send = search (sendable, crosses) depth 40

pub key_sync : IsSync HashedKey.the_row
key_sync = search (sendable, crosses) depth 40

parts_send : AllSend (shape Inside.the_type).fields
parts_send = (search (key_send, key_sync, KeyRef-send, List-send, Deed-send, maps.crosses, sendable, crosses) depth 40 fits 20000, tt)

pub memo_send : IsSend Memo.the_row
memo_send = view_send _ _ _ _ _ (recorded_send _ _ (Inside.the_type).to (Inside.the_type).to_one (struct_send (shape Inside.the_type) parts_send))
