-- A book may be sent to another thread, since each of its parts may be.
use Rattle.std.proofs.Crossing.{crosses}
use denote.Struct.Declared.{shape}
use denote.Param.Send.{IsSend, IsSync, view_send, recorded_send, struct_send, AllSend, sendable}
use Rattle.solid_base.specs.contracts.entities.Token as Token
use Rattle.solid_base.specs.contracts.entities.Entity as Entity
use Rattle.solid_base.specs.contracts.rows.Rows as Rows
use Rattle.entity_graph.specs.contracts.graph.Graph as Graph
use Rattle.entity_graph.specs.contracts.stamps.Stamps as Stamps
use Rattle.edit_core.specs.contracts.changes.Change as Change
use Rattle.edit_core.specs.contracts.batch.Batch as Batch
use Rattle.edit_core.specs.contracts.table.Frame as Frame
use Rattle.edit_core.specs.contracts.table.Table as Table
use Rattle.memo_graph.proofs.SentMemos.{memo_send}
use Rattle.ask_core.specs.contracts.commits.Commit as Commit
use Rattle.ask_core.specs.contracts.books.Book as Book
use Rattle.ask_core.specs.contracts.books.Book.TheInside as Inside

-- ---- the log

change_send : IsSend Change.the_row
change_send = search (sendable, crosses) depth 40

batch_send : IsSend Batch.the_row
batch_send = search (change_send, sendable, crosses) depth 40

commit_send : IsSend Commit.the_row
commit_send = search (batch_send, sendable, crosses) depth 40

-- ---- the table, which is shared

token_send : IsSend Token.the_row
token_send = search (sendable, crosses) depth 40

token_sync : IsSync Token.the_row
token_sync = search (sendable, crosses) depth 40

entity_send : IsSend Entity.the_row
entity_send = search (token_send, sendable, crosses) depth 40 fits 20000

entity_sync : IsSync Entity.the_row
entity_sync = search (token_sync, sendable, crosses) depth 40 fits 20000

rows_send : IsSend Rows.the_row
rows_send = search (entity_send, entity_sync, sendable, crosses) depth 40

rows_sync : IsSync Rows.the_row
rows_sync = search (entity_send, entity_sync, sendable, crosses) depth 40

graph_send : IsSend Graph.the_row
graph_send = search (rows_send, sendable, crosses) depth 40

graph_sync : IsSync Graph.the_row
graph_sync = search (rows_sync, sendable, crosses) depth 40

stamps_send : IsSend Stamps.the_row
stamps_send = search (sendable, crosses) depth 40

stamps_sync : IsSync Stamps.the_row
stamps_sync = search (sendable, crosses) depth 40

frame_send : IsSend Frame.the_row
frame_send = search (token_send, sendable, crosses) depth 40

frame_sync : IsSync Frame.the_row
frame_sync = search (token_sync, sendable, crosses) depth 40

table_send : IsSend Table.the_row
table_send = search (frame_send, frame_sync, rows_send, graph_send, stamps_send, sendable, crosses) depth 40

table_sync : IsSync Table.the_row
table_sync = search (frame_send, frame_sync, rows_sync, graph_sync, stamps_sync, sendable, crosses) depth 40

-- ---- the book

parts_send : AllSend (shape Inside.the_type).fields
parts_send = (search (sendable, crosses), (search (commit_send, sendable, crosses) depth 20, (search (table_send, table_sync, sendable, crosses) depth 20, (memo_send, tt))))

pub book_send : IsSend Book.the_row
book_send = view_send _ _ _ _ _ (recorded_send _ _ (Inside.the_type).to (Inside.the_type).to_one (struct_send (shape Inside.the_type) parts_send))
