use Rattle.std.proofs.Common.{◌≡◌, ◌+◌, ◌*◌, ◌++◌, take, drop}
use Rattle.std.specs.List.{concat}
use mathlib.Core.List.{IsPrefix}
use Rattle.iges_parameters.specs.Accepted.{lines_of}
use Rattle.iges_write.specs.Cards.{cards}
use Rattle.iges_write.specs.CanonicalFile.{entry_lines, records_lines, directory_lines, parameter_lines}
use Rattle.iges_write.proofs.entities.push_entities.Given as goal

abbrev pub invariant-loop-at : goal.invariant-loop-at
invariant-loop-at l = record {
  number : l.place.number ≡ 2 * l.at + 1;
  first : l.place.first ≡ lines_of l.model.comma l.model.semi (take l.at l.model.rows) + 1;
  directory : l.directory ++ concat (cards 68 l.place.number (entry_lines l.model.comma l.model.semi (take l.at l.model.rows) (drop l.at l.model.rows))) ≡ l.fn.directory ++ concat (cards 68 1 (directory_lines l.model));
  front : IsPrefix l.fn.directory l.directory;
  params : l.params ++ concat (cards 80 l.place.first (records_lines l.model.comma l.model.semi (take l.at l.model.rows) (drop l.at l.model.rows))) ≡ l.fn.params ++ concat (cards 80 1 (parameter_lines l.model));
}
