use Rattle.std.proofs.Common.{◌≡◌, ◌++◌, drop, take, length}
use Rattle.iges_fields.specs.Layout.{laid, AreHeld}
use Rattle.iges_fields.proofs.layouts.laid.Given as goal

abbrev pub invariant-loop-at : goal.invariant-loop-at
invariant-loop-at l = record {
  laid : l.text.items ++ laid l.width l.comma l.semi (length l.text.items) (drop l.at l.tokens) ≡ laid l.width l.comma l.semi 0 l.tokens;
  held : AreHeld (take l.at l.tokens);
}
