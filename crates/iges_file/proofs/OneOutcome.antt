-- Bytes are a file with one model and one end, or have one first fault: the outcome, part by part, and that every reading and every first fault is it.
use Rattle.std.proofs.Common.{◌≡◌, ◌⊎◌, inl, inr, ℕ, ◌+◌, ◌*◌, ◌≤◌, List, [], ◌∷◌, ◌++◌, length, Bool, true, false, cond, nat_lt, Result, Ok, Err, refl, sym, ap, subst, ◌∙◌, arith, append_assoc, length-append}
use Rattle.std.proofs.lemmas.Bool.Decides.{nat_tests}
use Rattle.std.proofs.lemmas.List.{append-nil}
use Rattle.solid_base.specs.declared.entities.Model.{Model}
use Rattle.solid_base.specs.declared.entities.Entity.{Entity}
use Rattle.iges_cards.specs.declared.reader.Cards.{Cards}
use Rattle.iges_cards.specs.declared.faults.CardFault.{CardFault}
use Rattle.iges_cards.specs.Grammar.{IsFixedForm}
use Rattle.iges_cards.specs.Reading.{cards_in}
use Rattle.iges_cards.proofs.AgainLaws.{cards_again}
use Rattle.iges_cards.proofs.TakesLaws.{cards_take}
use Rattle.iges_cards.proofs.FirstFaultLaws.{fault_found, fault_read}
use Rattle.iges_directory.specs.declared.globals.GlobalText.{GlobalText}
use Rattle.iges_directory.specs.declared.global_faults.GlobalFault.{GlobalFault}
use Rattle.iges_directory.specs.declared.global_faults.GlobalFault.TheVariants as global
use Rattle.iges_directory.specs.declared.directory_faults.DirFault.{DirFault}
use Rattle.iges_directory.specs.declared.pairs.Pair.{Pair}
use Rattle.iges_directory.specs.Global.{IsGlobal, IsFirstFault}
use Rattle.iges_directory.specs.Pairs.{IsDirectory}
use Rattle.iges_directory.specs.DirectoryReading.{directory_in}
use Rattle.iges_directory.proofs.GlobalLaws.{global_once, one_fault, global_no_fault, global_or_fault}
use Rattle.iges_directory.proofs.FirstFaultLaws.{fault_again, fault_takes}
use Rattle.iges_directory.proofs.DirectoryForms.{directory_again, directory_takes}
use Rattle.iges_parameters.specs.declared.faults.RowFault.{RowFault}
use Rattle.solid_base.specs.Graph.{AreSound}
use Rattle.entity_graph.specs.declared.graph_faults.GraphFault.{GraphFault}
use Rattle.entity_graph.specs.FirstFaults.{IsFault}
use Rattle.entity_graph.proofs.OneOfBoth as rules
use Rattle.entity_graph.proofs.Outcomes as graphs
use Rattle.iges_file.specs.declared.faults.FileFault.{FileFault}
use Rattle.iges_file.specs.declared.faults.FileFault.TheVariants as fault
use Rattle.iges_parameters.specs.Accepted.{lines_of, most_lines}
use Rattle.iges_file.specs.Entities.{entity_in, AreEntities, IsBadRow}
use Rattle.iges_file.specs.Files.{global_of, Reads, Refused}
use Rattle.iges_file.proofs.BadEntries.{bad_entry_found, bad_entry_read}
use Rattle.iges_file.proofs.RowLoops.{entities_pushed}

-- a model and where the file ends, or a fault
abbrev Outcome : Type 0
Outcome = Result (Model × ℕ) FileFault

-- ---- rows

-- an entity before others
abbrev before_others : Entity → Result (List Entity) (ℕ × RowFault) → Result (List Entity) (ℕ × RowFault)
before_others e (Ok es) = Ok (e ∷ es)
before_others e (Err x) = Err x

-- an entity and those after it, or its fault with its number
abbrev with_others : Result Entity RowFault → ℕ → Result (List Entity) (ℕ × RowFault) → Result (List Entity) (ℕ × RowFault)
with_others (Err f) count others = Err (2 * count + 1, f)
with_others (Ok e) count others = before_others e others

-- the entities of entries after so many, or the first fault with its entity's number
unfoldable rows_in : ℕ → ℕ → List (List ℕ) → ℕ → List Pair → Result (List Entity) (ℕ × RowFault)
rows_in comma semi params count [] = Ok []
rows_in comma semi params count (pair ∷ pairs) = with_others (entity_in comma semi params pair) count (rows_in comma semi params (count + 1) pairs)

rows_again : (comma semi : ℕ) (params : List (List ℕ)) (count : ℕ) (pairs : List Pair) (es : List Entity) → AreEntities comma semi params pairs es → rows_in comma semi params count pairs ≡ Ok es
unfolding rows_in
rows_again comma semi params count [] [] h = refl
rows_again comma semi params count [] (e ∷ es) h = absurd h
rows_again comma semi params count (p ∷ pairs) [] h = absurd h
rows_again comma semi params count (p ∷ pairs) (e ∷ es) h = rw (h.0, rows_again comma semi params (count + 1) pairs es h.1) refl

bad_again : (comma semi : ℕ) (params : List (List ℕ)) (count : ℕ) (front rest : List Pair) (es : List Entity) (pair : Pair) (f : RowFault) → AreEntities comma semi params front es → entity_in comma semi params pair ≡ Err f
    → rows_in comma semi params count (front ++ pair ∷ rest) ≡ Err (2 * (count + length front) + 1, f)
unfolding rows_in
bad_again comma semi params count [] rest [] pair f good bad = rw bad (ap (λ (n : ℕ). Err (2 * n + 1, f)) (omega arith))
bad_again comma semi params count [] rest (e ∷ es) pair f good bad = absurd good
bad_again comma semi params count (p ∷ front) rest [] pair f good bad = absurd good
bad_again comma semi params count (p ∷ front) rest (e ∷ es) pair f good bad =
    rw (good.0, bad_again comma semi params (count + 1) front rest es pair f good.1 bad) (ap (λ (n : ℕ). Err (2 * n + 1, f)) (omega arith))

-- what reading the rows gave is so
abbrev RowsSay : ℕ → ℕ → List (List ℕ) → List Pair → List Pair → List Entity → Result (List Entity) (ℕ × RowFault) → Type 0
RowsSay comma semi params front pairs es (Ok more) = AreEntities comma semi params (front ++ pairs) (es ++ more)
RowsSay comma semi params front pairs es (Err x) = IsBadRow comma semi params (front ++ pairs) x.0 x.1

rows_say : (comma semi : ℕ) (params : List (List ℕ)) (front pairs : List Pair) (es : List Entity) → AreEntities comma semi params front es → RowsSay comma semi params front pairs es (rows_in comma semi params (length front) pairs)
unfolding rows_in
rows_say comma semi params front [] es good = rw (append-nil front, append-nil es) good
rows_say comma semi params front (p ∷ pairs) es good =
    go (entity_in comma semi params p) refl (rows_in comma semi params (length front + 1) pairs) refl (λ e is. rows_say comma semi params (front ++ p ∷ []) pairs (es ++ e ∷ []) (entities_pushed comma semi params front es p e good is)) where
      count : length (front ++ p ∷ []) ≡ length front + 1
      count = length-append front (p ∷ [])

      after : (e : Entity) → (r : Result (List Entity) (ℕ × RowFault)) → RowsSay comma semi params (front ++ p ∷ []) pairs (es ++ e ∷ []) r → RowsSay comma semi params front (p ∷ pairs) es (before_others e r)
      after e (Ok more) h = rw (sym (append_assoc front (p ∷ []) pairs), sym (append_assoc es (e ∷ []) more)) h
      after e (Err x) h = rw (sym (append_assoc front (p ∷ []) pairs)) h

      go : (r : Result Entity RowFault) → entity_in comma semi params p ≡ r → (o : Result (List Entity) (ℕ × RowFault)) → rows_in comma semi params (length front + 1) pairs ≡ o
          → ((e : Entity) → entity_in comma semi params p ≡ Ok e → RowsSay comma semi params (front ++ p ∷ []) pairs (es ++ e ∷ []) (rows_in comma semi params (length (front ++ p ∷ [])) pairs))
          → RowsSay comma semi params front (p ∷ pairs) es (with_others r (length front) o)
      go (Err f) is o there more = record { front = front; entities = es; pair = p; rest = pairs; good = good; bad = bad_entry_found comma semi params p f is; cut = refl; number = refl }
      go (Ok e) is o there more = after e o (subst (RowsSay comma semi params (front ++ p ∷ []) pairs (es ++ e ∷ [])) (ap (λ (n : ℕ). rows_in comma semi params n pairs) count ∙ there) (more e is))

-- ---- the outcome, part by part

abbrev model_of : Cards → GlobalText → List Entity → Model
model_of cards g rows = record { start = cards.start; comma = g.comma; semi = g.semi; global = g.tokens; rows = rows }

abbrev after_lines : (cards : Cards) (g : GlobalText) (rows : List Entity) → AreSound rows ⊎ ((f : GraphFault) × IsFault rows f) → Outcome
after_lines cards g rows (inl sound) = Ok (model_of cards g rows, cards.end)
after_lines cards g rows (inr f) = Err (fault.Graph f.0)

abbrev after_rows : Cards → GlobalText → Result (List Entity) (ℕ × RowFault) → Outcome
after_rows cards g (Err x) = Err (fault.BadRow x.0 x.1)
after_rows cards g (Ok rows) = cond (nat_lt most_lines (lines_of g.comma g.semi rows)) (Err fault.TooManyLines) (after_lines cards g rows (rules.one_of_both rows))

abbrev after_directory : Cards → GlobalText → Result (List Pair) DirFault → Outcome
after_directory cards g (Err f) = Err (fault.Directory f)
after_directory cards g (Ok pairs) = after_rows cards g (rows_in g.comma g.semi cards.params 0 pairs)

abbrev after_global : (cards : Cards) → ((g : GlobalText) × IsGlobal cards.global g) ⊎ ((n : ℕ) × IsFirstFault n cards.global) → Outcome
after_global cards (inl g) = after_directory cards g.0 (directory_in (length cards.params) cards.directory)
after_global cards (inr n) = Err (fault.Global (global.BadGlobal n.0))

abbrev after_cards : Result Cards CardFault → Outcome
after_cards (Err f) = Err (fault.Card f)
after_cards (Ok cards) = after_global cards (global_or_fault cards.global)

abbrev outcome : List ℕ → Outcome
outcome bytes = after_cards (cards_in bytes)

-- ---- each reading and each first fault is the outcome

form_known : (bytes : List ℕ) (cards : Cards) → IsFixedForm bytes cards → outcome bytes ≡ after_global cards (global_or_fault cards.global)
form_known bytes cards form = ap after_cards (cards_again bytes cards form)

global_known : (cards : Cards) (g : GlobalText) → IsGlobal cards.global g → (x : ((g : GlobalText) × IsGlobal cards.global g) ⊎ ((n : ℕ) × IsFirstFault n cards.global))
    → after_global cards x ≡ after_directory cards g (directory_in (length cards.params) cards.directory)
global_known cards g whole (inl h) = ap (λ (k : GlobalText). after_directory cards k (directory_in (length cards.params) cards.directory)) (global_once cards.global h.0 g h.1 whole)
global_known cards g whole (inr n) = absurd (global_no_fault cards.global g n.0 whole n.1)

fault_known : (cards : Cards) (n : ℕ) → IsFirstFault n cards.global → (x : ((g : GlobalText) × IsGlobal cards.global g) ⊎ ((n : ℕ) × IsFirstFault n cards.global))
    → after_global cards x ≡ Err (fault.Global (global.BadGlobal n))
fault_known cards n first (inl h) = absurd (global_no_fault cards.global h.0 n h.1 first)
fault_known cards n first (inr m) = ap (λ (k : ℕ). Err (fault.Global (global.BadGlobal k))) (one_fault cards.global m.0 n m.1 first)

directory_known : (bytes : List ℕ) (cards : Cards) (g : GlobalText) (pairs : List Pair) → IsFixedForm bytes cards → IsGlobal cards.global g → IsDirectory (length cards.params) cards.directory pairs
    → outcome bytes ≡ after_rows cards g (rows_in g.comma g.semi cards.params 0 pairs)
directory_known bytes cards g pairs form whole all =
    form_known bytes cards form ∙ global_known cards g whole (global_or_fault cards.global) ∙ ap (after_directory cards g) (directory_again (length cards.params) cards.directory pairs all)

rows_known : (bytes : List ℕ) (cards : Cards) (g : GlobalText) (pairs : List Pair) (rows : List Entity) → IsFixedForm bytes cards → IsGlobal cards.global g → IsDirectory (length cards.params) cards.directory pairs
    → AreEntities g.comma g.semi cards.params pairs rows → outcome bytes ≡ after_rows cards g (Ok rows)
rows_known bytes cards g pairs rows form whole all es =
    directory_known bytes cards g pairs form whole all ∙ ap (after_rows cards g) (rows_again g.comma g.semi cards.params 0 pairs rows es)

sound_known : (cards : Cards) (g : GlobalText) (rows : List Entity) → AreSound rows → (x : AreSound rows ⊎ ((f : GraphFault) × IsFault rows f)) → after_lines cards g rows x ≡ Ok (model_of cards g rows, cards.end)
sound_known cards g rows h (inl sound) = refl
sound_known cards g rows h (inr f) = absurd (graphs.never_both rows f.0 f.1 h)

graph_known : (cards : Cards) (g : GlobalText) (rows : List Entity) (f : GraphFault) → IsFault rows f → (x : AreSound rows ⊎ ((f : GraphFault) × IsFault rows f)) → after_lines cards g rows x ≡ Err (fault.Graph f)
graph_known cards g rows f h (inl sound) = absurd (graphs.never_both rows f h sound)
graph_known cards g rows f h (inr k) = ap (λ (l : GraphFault). Err (fault.Graph l)) (graphs.one_fault rows k.0 f k.1 h)

reads_is : (bytes : List ℕ) (model : Model) (end : ℕ) → Reads bytes model end → outcome bytes ≡ Ok (model, end)
reads_is bytes model end h =
    let few : nat_lt most_lines (lines_of model.comma model.semi model.rows) ≡ false = (let f = h.few in grind (arith, nat_tests)) in
    let sound = sound_known h.cards (global_of model) model.rows h.sound (rules.one_of_both model.rows) in
    let after : after_rows h.cards (global_of model) (Ok model.rows) ≡ Ok (model_of h.cards (global_of model) model.rows, h.cards.end) = rw few sound in
    let whole : ◌≡◌ {A = Outcome} (Ok (model_of h.cards (global_of model) model.rows, h.cards.end)) (Ok (model, end)) = rw (sym h.start, sym h.place) refl in
    rows_known bytes h.cards (global_of model) h.pairs model.rows h.form h.globals h.directory h.entities ∙ after ∙ whole

refused_is : (bytes : List ℕ) (f : FileFault) → Refused bytes f → outcome bytes ≡ Err f
refused_is bytes (fault.Memory e) h = absurd h
refused_is bytes (fault.Card f) h = ap after_cards (fault_read bytes f h)
refused_is bytes (fault.Global f) h =
    form_known bytes h.cards h.form ∙ fault_known h.cards h.index h.first (global_or_fault h.cards.global) ∙ ap (λ (k : GlobalFault). Err (fault.Global k)) (sym h.is)
refused_is bytes (fault.Directory f) h =
    form_known bytes h.cards h.form ∙ global_known h.cards h.text h.globals (global_or_fault h.cards.global) ∙ ap (after_directory h.cards h.text) (fault_again (length h.cards.params) h.cards.directory f h.first)
refused_is bytes (fault.BadRow entity f) h =
    let b = h.first in
    let found = bad_again h.text.comma h.text.semi h.cards.params 0 b.front b.rest b.entities b.pair f b.good (bad_entry_read h.text.comma h.text.semi h.cards.params b.pair f b.bad) in
    let place : 2 * (0 + length b.front) + 1 ≡ entity = omega (arith, b.number) in
    directory_known bytes h.cards h.text h.pairs h.form h.globals h.directory
    ∙ ap (λ (ps : List Pair). after_rows h.cards h.text (rows_in h.text.comma h.text.semi h.cards.params 0 ps)) b.cut
    ∙ ap (after_rows h.cards h.text) found
    ∙ ap (λ (n : ℕ). Err (fault.BadRow n f)) place
refused_is bytes fault.TooManyLines h =
    let many : nat_lt most_lines (lines_of h.text.comma h.text.semi h.rows) ≡ true = (let m = h.many in grind (arith, nat_tests)) in
    rows_known bytes h.cards h.text h.pairs h.rows h.form h.globals h.directory h.entities ∙ rw many refl
refused_is bytes (fault.Graph f) h =
    let few : nat_lt most_lines (lines_of h.text.comma h.text.semi h.rows) ≡ false = (let k = h.few in grind (arith, nat_tests)) in
    let first = graph_known h.cards h.text h.rows f h.first (rules.one_of_both h.rows) in
    let after : after_rows h.cards h.text (Ok h.rows) ≡ Err (fault.Graph f) = rw few first in
    rows_known bytes h.cards h.text h.pairs h.rows h.form h.globals h.directory h.entities ∙ after

-- ---- the outcome holds

abbrev pub Holds : List ℕ → Outcome → Type 0
Holds bytes (Ok x) = Reads bytes x.0 x.1
Holds bytes (Err f) = Refused bytes f

lines_hold : (bytes : List ℕ) (cards : Cards) (g : GlobalText) (pairs : List Pair) (rows : List Entity) → IsFixedForm bytes cards → IsGlobal cards.global g → IsDirectory (length cards.params) cards.directory pairs
    → AreEntities g.comma g.semi cards.params pairs rows → lines_of g.comma g.semi rows ≤ most_lines → (x : AreSound rows ⊎ ((f : GraphFault) × IsFault rows f)) → Holds bytes (after_lines cards g rows x)
lines_hold bytes cards g pairs rows form whole all es few (inl sound) =
    record { cards = cards; pairs = pairs; form = form; place = refl; start = refl; globals = whole; directory = all; entities = es; few = few; sound = sound }
lines_hold bytes cards g pairs rows form whole all es few (inr f) =
    record { cards = cards; text = g; pairs = pairs; rows = rows; form = form; globals = whole; directory = all; entities = es; few = few; first = f.1 }

rows_hold : (bytes : List ℕ) (cards : Cards) (g : GlobalText) (pairs : List Pair) → IsFixedForm bytes cards → IsGlobal cards.global g → IsDirectory (length cards.params) cards.directory pairs
    → (r : Result (List Entity) (ℕ × RowFault)) → RowsSay g.comma g.semi cards.params [] pairs [] r → Holds bytes (after_rows cards g r)
rows_hold bytes cards g pairs form whole all (Err x) h = record { cards = cards; text = g; pairs = pairs; form = form; globals = whole; directory = all; first = h }
rows_hold bytes cards g pairs form whole all (Ok rows) h = go (nat_lt most_lines (lines_of g.comma g.semi rows)) refl where
  go : (v : Bool) → nat_lt most_lines (lines_of g.comma g.semi rows) ≡ v → Holds bytes (cond v (Err fault.TooManyLines) (after_lines cards g rows (rules.one_of_both rows)))
  go true is = record { cards = cards; text = g; pairs = pairs; rows = rows; form = form; globals = whole; directory = all; entities = h; many = grind (arith, nat_tests) }
  go false is = lines_hold bytes cards g pairs rows form whole all h (grind (arith, nat_tests)) (rules.one_of_both rows)

directory_holds : (bytes : List ℕ) (cards : Cards) (g : GlobalText) → IsFixedForm bytes cards → IsGlobal cards.global g
    → (r : Result (List Pair) DirFault) → directory_in (length cards.params) cards.directory ≡ r → Holds bytes (after_directory cards g r)
directory_holds bytes cards g form whole (Err f) is = record { cards = cards; text = g; form = form; globals = whole; first = fault_takes (length cards.params) cards.directory f is }
directory_holds bytes cards g form whole (Ok pairs) is =
    rows_hold bytes cards g pairs form whole (directory_takes (length cards.params) cards.directory pairs is) (rows_in g.comma g.semi cards.params 0 pairs) (rows_say g.comma g.semi cards.params [] pairs [] tt)

global_holds : (bytes : List ℕ) (cards : Cards) → IsFixedForm bytes cards → (x : ((g : GlobalText) × IsGlobal cards.global g) ⊎ ((n : ℕ) × IsFirstFault n cards.global)) → Holds bytes (after_global cards x)
global_holds bytes cards form (inl g) = directory_holds bytes cards g.0 form g.1 (directory_in (length cards.params) cards.directory) refl
global_holds bytes cards form (inr n) = record { cards = cards; index = n.0; form = form; first = n.1; is = refl }

outcome_holds : (bytes : List ℕ) → Holds bytes (outcome bytes)
outcome_holds bytes = go (cards_in bytes) refl where
  go : (r : Result Cards CardFault) → cards_in bytes ≡ r → Holds bytes (after_cards r)
  go (Err f) is = fault_found bytes f is
  go (Ok cards) is = global_holds bytes cards (cards_take bytes cards is) (global_or_fault cards.global)

-- ---- the law

either : (bytes : List ℕ) (o : Outcome) → Holds bytes o → ((model : Model) × (end : ℕ) × Reads bytes model end) ⊎ ((f : FileFault) × Refused bytes f)
either bytes (Ok x) h = inl (x.0, x.1, h)
either bytes (Err f) h = inr (f, h)

pub one_of_both : (bytes : List ℕ) → ((model : Model) × (end : ℕ) × Reads bytes model end) ⊎ ((f : FileFault) × Refused bytes f)
one_of_both bytes = either bytes (outcome bytes) (outcome_holds bytes)

pub reads_once : (bytes : List ℕ) (a b : Model) (m n : ℕ) → Reads bytes a m → Reads bytes b n → (a ≡ b) × (m ≡ n)
reads_once bytes a b m n h k =
    let both : ◌≡◌ {A = Outcome} (Ok (a, m)) (Ok (b, n)) = sym (reads_is bytes a m h) ∙ reads_is bytes b n k in
    let pair : ◌≡◌ {A = Model × ℕ} (a, m) (b, n) = cc in
    (ap (λ (x : Model × ℕ). x.0) pair, ap (λ (x : Model × ℕ). x.1) pair)

pub first_fault : (bytes : List ℕ) (f g : FileFault) → Refused bytes f → Refused bytes g → f ≡ g
first_fault bytes f g h k =
    let both : ◌≡◌ {A = Outcome} (Err f) (Err g) = sym (refused_is bytes f h) ∙ refused_is bytes g k in
    cc

pub never_both : (bytes : List ℕ) (model : Model) (end : ℕ) (f : FileFault) → Reads bytes model end → Refused bytes f → ⊥
never_both bytes model end f h k =
    let both : ◌≡◌ {A = Outcome} (Ok (model, end)) (Err f) = sym (reads_is bytes model end h) ∙ refused_is bytes f k in
    cc
