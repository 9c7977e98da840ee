use Rattle.std.proofs.Common.{◌∙◌, sym, subst, List, ℕ, Bor}
use Rattle.std.proofs.lemmas.Option.{IfSome_then}
use Rattle.clap.proofs.WalkLemmas.{list_any-map}
use Rattle.solid_top.specs.CommandLine.{begins_with_hyphen}
use Rattle.solid_top.specs.Commands.{IsCommand, Names}
use Rattle.solid_top.proofs.WordLaws.{none_then, refused, unflagged, words_found}
use Rattle.solid_top.proofs.commands.command_of.Goals as goal

pub returns-then-has_flag-clause-none : goal.returns-then-has_flag-clause-none
returns-then-has_flag-clause-none c = λ is.
    let flag = c.if-has_flag.ensures ∙ list_any-map begins_with_hyphen (λ (w : Bor (List ℕ)). w.now) c.args.words.now in
    let off = unflagged _ is in
    cc

pub returns-in-Ok-clause-named : goal.returns-in-Ok-clause-named
returns-in-Ok-clause-named c =
    let plain = sym (list_any-map begins_with_hyphen (λ (w : Bor (List ℕ)). w.now) c.args.words.now) ∙ sym c.if-has_flag.ensures in
    let same = words_found _ c.in-Ok.given c.in-Ok.ensures.matches plain c.in-Ok.ensures.kinds in
    IfSome_then c.command_given.result c.command_given.ensures.named (λ k h. subst (λ (words : List (List ℕ)). Names words k) same h)

pub returns-in-Ok-clause-none : goal.returns-in-Ok-clause-none
returns-in-Ok-clause-none c =
    let plain = sym (list_any-map begins_with_hyphen (λ (w : Bor (List ℕ)). w.now) c.args.words.now) ∙ sym c.if-has_flag.ensures in
    let same = words_found _ c.in-Ok.given c.in-Ok.ensures.matches plain c.in-Ok.ensures.kinds in
    none_then c.command_given.result c.command_given.ensures.none (λ h is. h (subst IsCommand (sym same) is))

pub returns : goal.returns
returns c = record {
  named = tt;
  none = refused _ c.in-Err.error c.in-Err.ensures.kinds (λ memory. c.in_default.not-OutOfMemory (c.kind.ensures ∙ memory));
}
