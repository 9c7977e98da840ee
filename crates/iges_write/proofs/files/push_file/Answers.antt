use Rattle.std.proofs.Common.{◌++◌, List, ℕ, ap, ◌∙◌, arith}
use Rattle.iges_write.specs.declared.files.LineCounts.{LineCounts}
use Rattle.iges_write.specs.Cards.{card}
use Rattle.iges_write.specs.CanonicalFile.{groups, groups_of}
use Rattle.iges_write.proofs.FileParts.{sections_after, lines_counted}
use Rattle.iges_write.proofs.files.push_file.Goals as goal

pub returns-clause-text : goal.returns-clause-text
returns-clause-text c =
    let m = c.args.model.now in
    let is = c.in_ok-counts.ensures.counts in
    c.in_ok-push_terminate.ensures.ok
    ∙ ap (λ (k : LineCounts). c.push_sections.new.text ++ card 84 1 (groups k.start k.global k.directory k.parameter)) is
    ∙ ap (λ (x : List ℕ). x ++ card 84 1 (groups_of m)) c.in_ok-counts.ensures.text
    ∙ sections_after m c.args.text.now

pub returns-clause-lines : goal.returns-clause-lines
returns-clause-lines c =
    let m = c.args.model.now in
    let is = c.in_ok-counts.ensures.counts in
    omega (arith, lines_counted m, ap (λ (k : LineCounts). k.start) is, ap (λ (k : LineCounts). k.global) is, ap (λ (k : LineCounts). k.directory) is, ap (λ (k : LineCounts). k.parameter) is)
