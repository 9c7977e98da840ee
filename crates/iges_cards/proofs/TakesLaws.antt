-- What is read is a file of the grammar.
use Rattle.std.proofs.Common.{◌≡◌, ℕ, ◌+◌, ◌<◌, ◌⊎◌, inl, inr, List, [], ◌∷◌, ◌++◌, Bool, true, false, cond, length, take, drop, Option, Some, None, Ok, refl, sym, ap, subst, ◌∙◌, arith, append_assoc, append-nil, length-append}
use Rattle.std.specs.List.{concat}
use Rattle.solid_base.proofs.SeriesLaws.{Spells-more, none_spelt}
use Rattle.iges_cards.specs.declared.reader.Cards.{Cards}
use Rattle.iges_cards.specs.declared.sections.Counts.{Counts}
use Rattle.iges_cards.specs.declared.sections.Section.{Section}
use Rattle.iges_cards.specs.declared.sections.Section.TheVariants as section
use Rattle.solid_base.specs.Outcomes.{◌>>=◌}
use Rattle.iges_cards.specs.Checks.{card_in, terminated}
use Rattle.iges_cards.specs.Grammar.{IsCard, HasGroups, AreSections, counts_of, IsFixedForm}
use Rattle.solid_base.specs.Texts.{IsOneLine}
use Rattle.iges_cards.specs.Lines.{IsLine, line_texts, line_of}
use Rattle.iges_cards.specs.Numbers.{IsNumber}
use Rattle.iges_cards.specs.Reading.{keep, no_cards, read_from, cards_in}
use Rattle.iges_cards.specs.Sections.{may_follow, width_of, is_terminate, count_of, one_more, no_lines}
use Rattle.iges_cards.proofs.CardLaws.{IsNext, card_takes, terminated_takes}
use Rattle.iges_cards.proofs.LineLaws.{AreTexts, are_texts, texts_joined, line_takes, line_open}
use Rattle.iges_cards.proofs.CheckLaws.{both_gave}

-- ---- what was read of a file

-- which sections have lines, by the section of the last line
abbrev pub InOrder : Option Section → List (List ℕ) → List (List ℕ) → List (List ℕ) → List (List ℕ) → Type 0
InOrder None start globals directory params = (start ≡ []) × (globals ≡ []) × (directory ≡ []) × (params ≡ [])
InOrder (Some section.Start) start globals directory params = (0 < length start) × (globals ≡ []) × (directory ≡ []) × (params ≡ [])
InOrder (Some section.Global) start globals directory params = (0 < length start) × (0 < length globals) × (directory ≡ []) × (params ≡ [])
InOrder (Some section.Directory) start globals directory params = (0 < length start) × (0 < length globals) × (0 < length directory) × (params ≡ [])
InOrder (Some section.Parameter) start globals directory params = (0 < length start) × (0 < length globals) × (0 < length directory) × (0 < length params)
InOrder (Some section.Terminate) start globals directory params = ⊥

pub record HasRead (before : Option Section) (counts : Counts) (cards : Cards) (text : List ℕ) : Type 0 where
  pub globals : List (List ℕ)
  pub sections : AreSections text cards.start globals cards.directory cards.params
  pub joined : cards.global ≡ concat globals
  pub counted : counts ≡ counts_of cards.start globals cards.directory cards.params
  pub ordered : InOrder before cards.start globals cards.directory cards.params

pub nothing_read : HasRead None no_lines no_cards []
nothing_read = record {
  globals = [];
  sections = record { start_text = []; global_text = []; directory_text = []; parameter_text = []; start_lines = refl; global_lines = refl; directory_lines = refl; parameter_lines = refl; spelt = refl };
  joined = refl;
  counted = refl;
  ordered = (refl, refl, refl, refl);
}

-- ---- texts of sections, with a line more

put_start : (s g d p text t : List ℕ) → text ≡ ((s ++ g) ++ d) ++ p → g ≡ [] → d ≡ [] → p ≡ [] → text ++ t ≡ (((s ++ t) ++ g) ++ d) ++ p
put_start s g d p text t e hg hd hp = rw (e, hg, hd, hp) (simp append-nil)

put_global : (s g d p text t : List ℕ) → text ≡ ((s ++ g) ++ d) ++ p → d ≡ [] → p ≡ [] → text ++ t ≡ ((s ++ (g ++ t)) ++ d) ++ p
put_global s g d p text t e hd hp = rw (e, hd, hp) (simp (append-nil, append_assoc))

put_directory : (s g d p text t : List ℕ) → text ≡ ((s ++ g) ++ d) ++ p → p ≡ [] → text ++ t ≡ ((s ++ g) ++ (d ++ t)) ++ p
put_directory s g d p text t e hp = rw (e, hp) (simp (append-nil, append_assoc))

put_parameter : (s g d p text t : List ℕ) → text ≡ ((s ++ g) ++ d) ++ p → text ++ t ≡ ((s ++ g) ++ d) ++ (p ++ t)
put_parameter s g d p text t e = ap (λ l. l ++ t) e ∙ append_assoc ((s ++ g) ++ d) p t

concat-more : (xs : List (List ℕ)) (x : List ℕ) → concat (xs ++ x ∷ []) ≡ concat xs ++ x
concat-more [] x = append-nil x
concat-more (y ∷ ys) x = ap (λ l. y ++ l) (concat-more ys x) ∙ sym (append_assoc y (concat ys) x)

length-more : {X : Type 0} (xs : List X) (x : X) → length (xs ++ x ∷ []) ≡ length xs + 1
length-more xs x = length-append xs (x ∷ [])

some-more : {X : Type 0} (xs : List X) (x : X) → 0 < length (xs ++ x ∷ [])
some-more xs x = omega (arith, length-more xs x)

-- ---- a line more

card_of : (before : Option Section) (counts : Counts) (next : Section) (columns text : List ℕ) (k : ℕ) → IsNext before counts next columns (line_of text) → IsLine text (line_of text) → count_of counts next + 1 ≡ k
    → IsCard next (width_of next) k text (take (width_of next) columns)
card_of before counts next columns text k h l e = record {
  line = line_of text;
  columns = columns;
  is_line = l;
  numbered = record { columns_of = h.columns_of; letter = h.letter; sequence = subst (λ n. IsNumber n (drop 73 columns)) e h.sequence };
  kept_columns = refl;
}

before_start : (before : Option Section) (s g d p : List (List ℕ)) → may_follow before section.Start ≡ true → InOrder before s g d p → (g ≡ []) × (d ≡ []) × (p ≡ [])
before_start None s g d p m h = (h.1, h.2, h.3)
before_start (Some section.Start) s g d p m h = (h.1, h.2, h.3)
before_start (Some section.Global) s g d p m h = cc
before_start (Some section.Directory) s g d p m h = cc
before_start (Some section.Parameter) s g d p m h = cc
before_start (Some section.Terminate) s g d p m h = cc

before_global : (before : Option Section) (s g d p : List (List ℕ)) → may_follow before section.Global ≡ true → InOrder before s g d p → (0 < length s) × (d ≡ []) × (p ≡ [])
before_global None s g d p m h = cc
before_global (Some section.Start) s g d p m h = (h.0, h.2, h.3)
before_global (Some section.Global) s g d p m h = (h.0, h.2, h.3)
before_global (Some section.Directory) s g d p m h = cc
before_global (Some section.Parameter) s g d p m h = cc
before_global (Some section.Terminate) s g d p m h = cc

before_directory : (before : Option Section) (s g d p : List (List ℕ)) → may_follow before section.Directory ≡ true → InOrder before s g d p → (0 < length s) × (0 < length g) × (p ≡ [])
before_directory None s g d p m h = cc
before_directory (Some section.Start) s g d p m h = cc
before_directory (Some section.Global) s g d p m h = (h.0, h.1, h.3)
before_directory (Some section.Directory) s g d p m h = (h.0, h.1, h.3)
before_directory (Some section.Parameter) s g d p m h = cc
before_directory (Some section.Terminate) s g d p m h = cc

before_parameter : (before : Option Section) (s g d p : List (List ℕ)) → may_follow before section.Parameter ≡ true → InOrder before s g d p → (0 < length s) × (0 < length g) × (0 < length d)
before_parameter None s g d p m h = cc
before_parameter (Some section.Start) s g d p m h = cc
before_parameter (Some section.Global) s g d p m h = cc
before_parameter (Some section.Directory) s g d p m h = (h.0, h.1, h.2)
before_parameter (Some section.Parameter) s g d p m h = (h.0, h.1, h.2)
before_parameter (Some section.Terminate) s g d p m h = cc

before_terminate : (before : Option Section) (s g d p : List (List ℕ)) → may_follow before section.Terminate ≡ true → InOrder before s g d p → (0 < length s) × (0 < length g) × (0 < length p → 0 < length d)
before_terminate None s g d p m h = cc
before_terminate (Some section.Start) s g d p m h = cc
before_terminate (Some section.Global) s g d p m h = (h.0, h.1, λ some. absurd (omega (arith, ap length h.3)))
before_terminate (Some section.Directory) s g d p m h = (h.0, h.1, λ _. h.2)
before_terminate (Some section.Parameter) s g d p m h = (h.0, h.1, λ _. h.2)
before_terminate (Some section.Terminate) s g d p m h = cc

more_start : (before : Option Section) (counts : Counts) (cards : Cards) (text t columns : List ℕ) → HasRead before counts cards text → IsLine t (line_of t) → IsNext before counts section.Start columns (line_of t)
    → HasRead (Some section.Start) (one_more section.Start counts) (keep section.Start (take 72 columns) cards) (text ++ t)
more_start before counts cards text t columns h l n =
    let s = h.sections in
    let kept = take 72 columns in
    let (g, d, p) = before_start before cards.start h.globals cards.directory cards.params n.follows h.ordered in
    let gt = none_spelt _ 1 s.global_text h.globals g s.global_lines in
    let dt = none_spelt _ 1 s.directory_text cards.directory d s.directory_lines in
    let pt = none_spelt _ 1 s.parameter_text cards.params p s.parameter_lines in
    let count : counts.start ≡ length cards.start = ap (λ (c : Counts). c.start) h.counted in
    let card = card_of before counts section.Start columns t (1 + length cards.start) n l (omega arith) in
    record {
      globals = h.globals;
      sections = record {
        start_text = s.start_text ++ t;
        global_text = s.global_text;
        directory_text = s.directory_text;
        parameter_text = s.parameter_text;
        start_lines = Spells-more (IsCard section.Start 72) 1 s.start_text t cards.start kept s.start_lines card;
        global_lines = s.global_lines;
        directory_lines = s.directory_lines;
        parameter_lines = s.parameter_lines;
        spelt = put_start s.start_text s.global_text s.directory_text s.parameter_text text t s.spelt gt dt pt;
      };
      joined = h.joined;
      counted = (rw (length-more cards.start kept) (ap (one_more section.Start) h.counted));
      ordered = (some-more cards.start kept, g, d, p);
    }

more_global : (before : Option Section) (counts : Counts) (cards : Cards) (text t columns : List ℕ) → HasRead before counts cards text → IsLine t (line_of t) → IsNext before counts section.Global columns (line_of t)
    → HasRead (Some section.Global) (one_more section.Global counts) (keep section.Global (take 72 columns) cards) (text ++ t)
more_global before counts cards text t columns h l n =
    let s = h.sections in
    let kept = take 72 columns in
    let (some, d, p) = before_global before cards.start h.globals cards.directory cards.params n.follows h.ordered in
    let dt = none_spelt _ 1 s.directory_text cards.directory d s.directory_lines in
    let pt = none_spelt _ 1 s.parameter_text cards.params p s.parameter_lines in
    let count : counts.global ≡ length h.globals = ap (λ (c : Counts). c.global) h.counted in
    let card = card_of before counts section.Global columns t (1 + length h.globals) n l (omega arith) in
    record {
      globals = h.globals ++ kept ∷ [];
      sections = record {
        start_text = s.start_text;
        global_text = s.global_text ++ t;
        directory_text = s.directory_text;
        parameter_text = s.parameter_text;
        start_lines = s.start_lines;
        global_lines = Spells-more (IsCard section.Global 72) 1 s.global_text t h.globals kept s.global_lines card;
        directory_lines = s.directory_lines;
        parameter_lines = s.parameter_lines;
        spelt = put_global s.start_text s.global_text s.directory_text s.parameter_text text t s.spelt dt pt;
      };
      joined = ap (λ l. l ++ kept) h.joined ∙ sym (concat-more h.globals kept);
      counted = (rw (length-more h.globals kept) (ap (one_more section.Global) h.counted));
      ordered = (some, some-more h.globals kept, d, p);
    }

more_directory : (before : Option Section) (counts : Counts) (cards : Cards) (text t columns : List ℕ) → HasRead before counts cards text → IsLine t (line_of t) → IsNext before counts section.Directory columns (line_of t)
    → HasRead (Some section.Directory) (one_more section.Directory counts) (keep section.Directory (take 80 columns) cards) (text ++ t)
more_directory before counts cards text t columns h l n =
    let s = h.sections in
    let kept = take 80 columns in
    let (some, global, p) = before_directory before cards.start h.globals cards.directory cards.params n.follows h.ordered in
    let pt = none_spelt _ 1 s.parameter_text cards.params p s.parameter_lines in
    let count : counts.directory ≡ length cards.directory = ap (λ (c : Counts). c.directory) h.counted in
    let card = card_of before counts section.Directory columns t (1 + length cards.directory) n l (omega arith) in
    record {
      globals = h.globals;
      sections = record {
        start_text = s.start_text;
        global_text = s.global_text;
        directory_text = s.directory_text ++ t;
        parameter_text = s.parameter_text;
        start_lines = s.start_lines;
        global_lines = s.global_lines;
        directory_lines = Spells-more (IsCard section.Directory 80) 1 s.directory_text t cards.directory kept s.directory_lines card;
        parameter_lines = s.parameter_lines;
        spelt = put_directory s.start_text s.global_text s.directory_text s.parameter_text text t s.spelt pt;
      };
      joined = h.joined;
      counted = (rw (length-more cards.directory kept) (ap (one_more section.Directory) h.counted));
      ordered = (some, global, some-more cards.directory kept, p);
    }

more_parameter : (before : Option Section) (counts : Counts) (cards : Cards) (text t columns : List ℕ) → HasRead before counts cards text → IsLine t (line_of t) → IsNext before counts section.Parameter columns (line_of t)
    → HasRead (Some section.Parameter) (one_more section.Parameter counts) (keep section.Parameter (take 64 columns) cards) (text ++ t)
more_parameter before counts cards text t columns h l n =
    let s = h.sections in
    let kept = take 64 columns in
    let (some, global, directory) = before_parameter before cards.start h.globals cards.directory cards.params n.follows h.ordered in
    let count : counts.parameter ≡ length cards.params = ap (λ (c : Counts). c.parameter) h.counted in
    let card = card_of before counts section.Parameter columns t (1 + length cards.params) n l (omega arith) in
    record {
      globals = h.globals;
      sections = record {
        start_text = s.start_text;
        global_text = s.global_text;
        directory_text = s.directory_text;
        parameter_text = s.parameter_text ++ t;
        start_lines = s.start_lines;
        global_lines = s.global_lines;
        directory_lines = s.directory_lines;
        parameter_lines = Spells-more (IsCard section.Parameter 64) 1 s.parameter_text t cards.params kept s.parameter_lines card;
        spelt = put_parameter s.start_text s.global_text s.directory_text s.parameter_text text t s.spelt;
      };
      joined = h.joined;
      counted = (rw (length-more cards.params kept) (ap (one_more section.Parameter) h.counted));
      ordered = (some, global, directory, some-more cards.params kept);
    }

more_line : (before : Option Section) (counts : Counts) (cards : Cards) (text t columns : List ℕ) (next : Section) → is_terminate next ≡ false → HasRead before counts cards text → IsLine t (line_of t)
    → IsNext before counts next columns (line_of t) → HasRead (Some next) (one_more next counts) (keep next (take (width_of next) columns) cards) (text ++ t)
more_line before counts cards text t columns section.Start o h l n = more_start before counts cards text t columns h l n
more_line before counts cards text t columns section.Global o h l n = more_global before counts cards text t columns h l n
more_line before counts cards text t columns section.Directory o h l n = more_directory before counts cards text t columns h l n
more_line before counts cards text t columns section.Parameter o h l n = more_parameter before counts cards text t columns h l n
more_line before counts cards text t columns section.Terminate o h l n = cc

-- ---- the terminate line

last_line : (t : List ℕ) (texts : List (List ℕ)) → AreTexts (t ∷ texts) → IsLine t (line_of t) ⊎ ((t ≡ line_of t) × (concat texts ≡ []) × IsOneLine (line_of t))
last_line t texts (inl h) = inl (line_takes t h.0)
last_line t texts (inr h) =
    let line : line_of t ≡ t = line_open t h.1 in
    inr (sym line, ap concat h.0, subst IsOneLine (sym line) h.1)

pub ends_takes : (before : Option Section) (counts : Counts) (cards found : Cards) (text t columns : List ℕ) (texts : List (List ℕ)) (x : Counts) → AreTexts (t ∷ texts) → HasRead before counts cards text
    → IsNext before counts section.Terminate columns (line_of t) → terminated counts columns ≡ Ok x → record cards { end = length text + length t } ≡ found → IsFixedForm (text ++ (t ++ concat texts)) found
ends_takes before counts cards found text t columns texts x a h n k e =
    let (start, global, first) = before_terminate before cards.start h.globals cards.directory cards.params n.follows h.ordered in
    subst (λ f. IsFixedForm (text ++ (t ++ concat texts)) f) e (record {
      globals = h.globals;
      sections_text = text;
      terminate_text = t;
      rest = concat texts;
      sections = h.sections;
      some_start = start;
      some_global = global;
      directory_first = first;
      joined = h.joined;
      terminate = record {
        line = line_of t;
        columns = columns;
        is_line = last_line t texts a;
        numbered = record { columns_of = n.columns_of; letter = n.letter; sequence = n.sequence };
        groups = subst (λ c. HasGroups c columns) h.counted (terminated_takes counts columns x k);
      };
      spelt = refl;
      end = refl;
    })

-- ---- all lines

-- a line that isn't the last one is ended
ended_line : (t u : List ℕ) (texts : List (List ℕ)) → AreTexts (t ∷ u ∷ texts) → IsLine t (line_of t) × AreTexts (u ∷ texts)
ended_line t u texts (inl h) = (line_takes t h.0, h.1)
ended_line t u texts (inr h) = absurd (let no : (u ∷ texts) ≡ [] = h.0 in cc)

case_takes : (before : Option Section) (counts : Counts) (cards found : Cards) (text t columns : List ℕ) (texts : List (List ℕ)) (next : Section) (v : Bool) → is_terminate next ≡ v → AreTexts (t ∷ texts) → HasRead before counts cards text
    → IsNext before counts next columns (line_of t)
    → cond v (terminated counts columns >>= λ _. Ok (record cards { end = length text + length t })) (read_from (Some next) (one_more next counts) (keep next (take (width_of next) columns) cards) (length text + length t) texts) ≡ Ok found
    → ((u : List ℕ) (more : List (List ℕ)) → texts ≡ u ∷ more → IsLine t (line_of t) → AreTexts (u ∷ more) → HasRead (Some next) (one_more next counts) (keep next (take (width_of next) columns) cards) (text ++ t)
    → read_from (Some next) (one_more next counts) (keep next (take (width_of next) columns) cards) (length (text ++ t)) texts ≡ Ok found → IsFixedForm ((text ++ t) ++ concat texts) found)
    → IsFixedForm (text ++ (t ++ concat texts)) found
unfolding read_from
case_takes before counts cards found text t columns texts section.Terminate true e a h n k more =
    let (x, groups, same) = both_gave (terminated counts columns) (λ _. Ok (record cards { end = length text + length t })) found k in
    let is : record cards { end = length text + length t } ≡ found = cc in
    ends_takes before counts cards found text t columns texts x a h n groups is
case_takes before counts cards found text t columns [] next false e a h n k more = cc
case_takes before counts cards found text t columns (u ∷ texts) next false e a h n k more =
    let (line, rest) = ended_line t u texts a in
    subst (λ b. IsFixedForm b found) (append_assoc text t (concat (u ∷ texts))) (more u texts refl line rest (more_line before counts cards text t columns next e h line n)
    (ap (λ p. read_from (Some next) (one_more next counts) (keep next (take (width_of next) columns) cards) p (u ∷ texts)) (length-append text t) ∙ k))
case_takes before counts cards found text t columns texts section.Start true e a h n k more = cc
case_takes before counts cards found text t columns texts section.Global true e a h n k more = cc
case_takes before counts cards found text t columns texts section.Directory true e a h n k more = cc
case_takes before counts cards found text t columns texts section.Parameter true e a h n k more = cc

pub reading_takes : (texts : List (List ℕ)) (before : Option Section) (counts : Counts) (cards found : Cards) (text : List ℕ) → AreTexts texts → HasRead before counts cards text
    → read_from before counts cards (length text) texts ≡ Ok found → IsFixedForm (text ++ concat texts) found
unfolding read_from
reading_takes [] before counts cards found text a h k = cc
reading_takes (t ∷ texts) before counts cards found text a h k =
    let (card, of_line, more) = both_gave (card_in before counts (line_of t)) (λ card. cond (is_terminate card.0) (terminated counts card.1 >>= λ _. Ok (record cards { end = length text + length t }))
    (read_from (Some card.0) (one_more card.0 counts) (keep card.0 (take (width_of card.0) card.1) cards) (length text + length t) texts)) found k in
    let n = card_takes before counts card.0 card.1 (line_of t) of_line in
    case_takes before counts cards found text t card.1 texts card.0 (is_terminate card.0) refl a h n more (λ u us e line rest has next.
    reading_takes texts (Some card.0) (one_more card.0 counts) (keep card.0 (take (width_of card.0) card.1) cards) found (text ++ t) (subst AreTexts (sym e) rest) has next)

pub cards_take : (bytes : List ℕ) (cards : Cards) → cards_in bytes ≡ Ok cards → IsFixedForm bytes cards
unfolding cards_in
cards_take bytes cards h =
    subst (λ b. IsFixedForm b cards) (texts_joined bytes) (reading_takes (line_texts bytes) None no_lines no_cards cards [] (are_texts bytes) nothing_read h)
