use Rattle.std.proofs.Common.{rules}
use Rattle.std.proofs.lemmas.List.Elements.{filter_from_retain}
use Rattle.script_lines.specs.Sessions.{has_line}
use Rattle.script_lines.proofs.sessions.keep_used.Goals as goal

pub returns : goal.returns
returns c = filter_from_retain _ has_line (λ p s b q told. search rules) _ _ _ c.retain.ensures.filtered
