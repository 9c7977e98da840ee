-- A file in the fixed form (IGES 5.3, 2.2.4 (file structure)): the start, global, directory entry
-- and parameter data sections, and the terminate line. Directory and parameter lines may be absent,
-- and parameter lines stand after directory lines alone.
use Rattle.std.specs.Prelude.{◌≡◌, ◌<◌, ◌⊎◌, ℕ, ◌+◌, List, [], ◌∷◌, ◌++◌, length, take, drop}
use Rattle.std.specs.Prelude.{slice_index}
use Rattle.std.specs.List.{concat}
use Rattle.solid_base.specs.Series.{Spells}
use Rattle.iges_cards.specs.declared.reader.Cards.{Cards}
use Rattle.iges_cards.specs.declared.sections.Counts.{Counts}
use Rattle.iges_cards.specs.declared.sections.Section.{Section}
use Rattle.iges_cards.specs.declared.sections.Section.TheVariants as section
use Rattle.solid_base.specs.Texts.{IsOneLine}
use Rattle.iges_cards.specs.Lines.{IsLine, HasColumns}
use Rattle.iges_cards.specs.Numbers.{IsNumber}
use Rattle.iges_cards.specs.Sections.{letter_of}

-- the columns of a line: the section letter in column 73, the line's number in its section in
-- columns 74 to 80
pub record IsNumbered (named : Section) (count : ℕ) (columns line : List ℕ) : Type 0 where
  pub columns_of : HasColumns columns line
  pub letter : slice_index columns 72 ≡ letter_of named
  pub sequence : IsNumber count (drop 73 columns)

-- a card of a section, of which so many columns are kept
pub record IsCard (letter : Section) (width sequence : ℕ) (text kept : List ℕ) : Type 0 where
  pub line : List ℕ
  pub columns : List ℕ
  pub is_line : IsLine text line
  pub numbered : IsNumbered letter sequence columns line
  pub kept_columns : kept ≡ take width columns

-- the text of a section's cards, which are numbered from 1
abbrev pub AreCards : Section → ℕ → List ℕ → List (List ℕ) → Type 0
AreCards letter width text cards = Spells (IsCard letter width) 1 text cards

-- a group of the terminate line: a section's letter, and the number of its lines in seven columns
pub record IsGroup (letter : Section) (count : ℕ) (columns : List ℕ) : Type 0 where
  pub field : List ℕ
  pub spelt : columns ≡ letter_of letter ∷ field
  pub number : IsNumber count field

-- columns 1 to 32 of the terminate line: the groups of S, G, D and P
pub record HasGroups (counts : Counts) (columns : List ℕ) : Type 0 where
  pub start : IsGroup section.Start counts.start (take 8 columns)
  pub global : IsGroup section.Global counts.global (take 8 (drop 8 columns))
  pub directory : IsGroup section.Directory counts.directory (take 8 (drop 16 columns))
  pub parameter : IsGroup section.Parameter counts.parameter (take 8 (drop 24 columns))

-- the terminate line, which may also end where the input ends; rest stands after it
pub record IsTerminate (counts : Counts) (text rest : List ℕ) : Type 0 where
  pub line : List ℕ
  pub columns : List ℕ
  pub is_line : IsLine text line ⊎ ((text ≡ line) × (rest ≡ []) × IsOneLine line)
  pub numbered : IsNumbered section.Terminate 1 columns line
  pub groups : HasGroups counts columns

-- the cards in front of the terminate line, and what is kept of them: columns 1 to 72 of the start
-- and global lines, all columns of the directory lines, columns 1 to 64 of the parameter lines
pub record AreSections (text : List ℕ)
    (start globals directory params : List (List ℕ)) : Type 0 where
  pub start_text : List ℕ
  pub global_text : List ℕ
  pub directory_text : List ℕ
  pub parameter_text : List ℕ
  pub start_lines : AreCards section.Start 72 start_text start
  pub global_lines : AreCards section.Global 72 global_text globals
  pub directory_lines : AreCards section.Directory 80 directory_text directory
  pub parameter_lines : AreCards section.Parameter 64 parameter_text params
  pub spelt : text ≡ ((start_text ++ global_text) ++ directory_text) ++ parameter_text

-- how many lines the sections have
abbrev pub counts_of : List (List ℕ) → List (List ℕ) → List (List ℕ) → List (List ℕ) → Counts
counts_of start globals directory params = record {
  start = length start;
  global = length globals;
  directory = length directory;
  parameter = length params;
}

-- the bytes are a file in the fixed form: its sections, its terminate line, and whatever stands
-- after that
pub record IsFixedForm (bytes : List ℕ) (cards : Cards) : Type 0 where
  pub globals : List (List ℕ)
  pub sections_text : List ℕ
  pub terminate_text : List ℕ
  pub rest : List ℕ
  pub sections : AreSections sections_text cards.start globals cards.directory cards.params
  pub some_start : 0 < length cards.start
  pub some_global : 0 < length globals
  pub directory_first : 0 < length cards.params → 0 < length cards.directory
  pub joined : cards.global ≡ concat globals
  pub terminate : IsTerminate
      (counts_of cards.start globals cards.directory cards.params) terminate_text rest
  pub spelt : bytes ≡ sections_text ++ (terminate_text ++ rest)
  pub end : cards.end ≡ length sections_text + length terminate_text
