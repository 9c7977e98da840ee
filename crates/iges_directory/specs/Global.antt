-- IGES 5.3, 2.2.4.3 (global section): the delimiters, and the parameters after them.
use Rattle.std.specs.Prelude.{◌≡◌, ◌≢◌, ◌⊎◌, ℕ, ◌+◌, List, [], ◌∷◌, ◌++◌, Bool, false, IsTrue}
use Rattle.std.specs.Prelude.{length}
use Rattle.solid_base.specs.Spelling.{AreBlanks}
use Rattle.solid_base.specs.declared.entities.Token.{Token}
use Rattle.iges_fields.specs.Delimiters.{is_lawful}
use Rattle.iges_fields.specs.Grammar.{delimiter, IsField}
use Rattle.iges_fields.specs.Layout.{field_of, is_last, AreFields}
use Rattle.iges_fields.specs.Reading.{Reading}
use Rattle.iges_directory.specs.declared.global_faults.GlobalFault.{GlobalFault}
use Rattle.iges_directory.specs.declared.global_faults.GlobalFault.TheVariants as fault
use Rattle.iges_directory.specs.declared.globals.GlobalText.{GlobalText}

-- ---- the grammar

-- how a delimiter is spelt: by nothing, where it is the usual one, or by `1H` (49, 72) and the
-- delimiter, which is lawful
abbrev pub SpellsDelimiter : ℕ → ℕ → List ℕ → Type 0
SpellsDelimiter usual d spelt =
    ((spelt ≡ []) × (d ≡ usual)) ⊎ ((spelt ≡ 49 ∷ 72 ∷ d ∷ []) × IsTrue (is_lawful d))

-- a text begins with a parameter that tells a delimiter: blanks, its spelling, blanks, and the byte
-- that ends it
pub record TellsDelimiter (usual d end : ℕ) (text rest : List ℕ) : Type 0 where
  pub before : List ℕ
  pub spelt : List ℕ
  pub after : List ℕ
  pub blank_before : AreBlanks before
  pub spells : SpellsDelimiter usual d spelt
  pub blank_after : AreBlanks after
  pub is : text ≡ before ++ (spelt ++ (after ++ end ∷ rest))

-- a text begins with parameter 1: it tells comma, which is a comma where nothing is spelt, and
-- comma itself ends it
abbrev pub IsFirst : ℕ → List ℕ → List ℕ → Type 0
IsFirst comma text rest = TellsDelimiter 44 comma comma text rest

-- a text begins with parameter 2: it tells semi, which is a semicolon where nothing is spelt, and
-- which isn't comma again; semi ends it where it is the last parameter, else comma
abbrev pub IsSecond : ℕ → ℕ → Bool → List ℕ → List ℕ → Type 0
IsSecond comma semi ended text rest =
    (semi ≢ comma) × TellsDelimiter 59 semi (delimiter comma semi ended) text rest

-- a text is a global section with these delimiters and these parameters from the third on
pub record IsGlobal (text : List ℕ) (global : GlobalText) : Type 0 where
  pub after_first : List ℕ
  pub after_second : List ℕ
  pub first : IsFirst global.comma text after_first
  pub second : IsSecond global.comma global.semi (is_last global.tokens) after_first after_second
  pub fields : AreFields global.comma global.semi after_second global.tokens

-- ---- the first faulty parameter

-- a text begins with these fields, each with comma after it, and this is what stands after them
abbrev pub BeginsWith : ℕ → ℕ → List ℕ → List Token → List ℕ → Type 0
BeginsWith comma semi text [] rest = text ≡ rest
BeginsWith comma semi text (t ∷ ts) rest =
    (after : List ℕ) × IsField comma semi text (field_of t after false)
    × BeginsWith comma semi after ts rest

-- a text begins with no field
abbrev pub NoField : ℕ → ℕ → List ℕ → Type 0
NoField comma semi text = (field : Reading) → IsField comma semi text field → ⊥

-- of fields from parameter 3 on, parameter n is the first that is none
pub record StopsAt (comma semi n : ℕ) (text : List ℕ) : Type 0 where
  pub front : List Token
  pub rest : List ℕ
  pub begins : BeginsWith comma semi text front rest
  pub none : NoField comma semi rest
  pub index : n ≡ length front + 3

-- parameter 1 is faulty: a text begins with no parameter 1
abbrev pub NoFirst : List ℕ → Type 0
NoFirst text = (comma : ℕ) → (rest : List ℕ) → IsFirst comma text rest → ⊥

-- parameter 2 is the first that is faulty: parameter 1 stands there, and no parameter 2 after it
pub record NoSecond (text : List ℕ) : Type 0 where
  pub comma : ℕ
  pub after_first : List ℕ
  pub first : IsFirst comma text after_first
  pub none : (semi : ℕ) → (ended : Bool) → (rest : List ℕ)
      → IsSecond comma semi ended after_first rest → ⊥

-- parameter n is the first that is faulty: parameters 1 and 2 stand there, and of the fields after
-- them it is the first that is none
pub record NoOther (n : ℕ) (text : List ℕ) : Type 0 where
  pub comma : ℕ
  pub semi : ℕ
  pub after_first : List ℕ
  pub after_second : List ℕ
  pub first : IsFirst comma text after_first
  pub second : IsSecond comma semi false after_first after_second
  pub stops : StopsAt comma semi n after_second

-- parameter n is the first that is faulty
abbrev pub IsFirstFault : ℕ → List ℕ → Type 0
IsFirstFault n text = ((n ≡ 1) × NoFirst text) ⊎ (((n ≡ 2) × NoSecond text) ⊎ NoOther n text)

-- a fault of the text is the first one; out of memory says nothing of the text
abbrev pub IsFaultOf : List ℕ → GlobalFault → Type 0
IsFaultOf text (fault.Memory e) = Unit {0}
IsFaultOf text (fault.BadGlobal n) = IsFirstFault n text
