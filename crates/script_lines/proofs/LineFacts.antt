-- Worked lines, so that a wrong rule in the specs does not check.
use Rattle.std.proofs.Common.{ℕ, List, [], ◌∷◌, ◌++◌, codes, true, false, pos, negsuc}
use Rattle.decimal_scale.specs.Reading as decimal_scale
use Rattle.solid_base.specs.Decimal as solid_base
use Rattle.solid_questions.specs.declared.questions.Question.TheVariants as question
use Rattle.script_lines.specs.declared.commands.Command.TheVariants as command
use Rattle.script_lines.specs.declared.faults.LineFault.TheVariants as fault
use Rattle.script_lines.specs.Lines.{lines_of}
use Rattle.script_lines.specs.Words.{words_from}
use Rattle.script_lines.specs.Tables.{row_with}
use Rattle.script_lines.specs.Scripts.{IsScript}
use Rattle.script_lines.specs.Reading.{line_in, session_at, session_of, whole_of, coordinate_of, entity_of, at_least_of, grid_of, grid_above_of, step_of, extent_of, entity_by, whole_by, extent_by, next_word, taken, numbers_from, no_more, record_at, kind_named, live_named, name_at, command_at, named_command}
use Rattle.script_lines.proofs.LineRead.{script_some}

-- no session, a session too many, a name that isn't one, a missing word at the line's end plus one,
-- a word too many at its own column
abbrev refused_lines : List ℕ
refused_lines =
    codes "hello\n@9 newest\n@1 pint\n@1 point 1 0 0\n@1 point 1 0 0 0 7"

pub refused : IsScript refused_lines
    (record { session = 0; command = command.Bad (fault.BadLine 1) }
    ∷ record { session = 0; command = command.Bad fault.TooManySessions }
    ∷ record { session = 1; command = command.Bad fault.UnknownCommand }
    ∷ record { session = 1; command = command.Bad (fault.BadLine 15) }
    ∷ record { session = 1; command = command.Bad (fault.BadLine 18) } ∷ [])
unfolding lines_of words_from line_in session_at session_of whole_of coordinate_of entity_of at_least_of grid_of grid_above_of step_of extent_of entity_by whole_by extent_by next_word taken numbers_from no_more record_at kind_named live_named name_at command_at named_command decimal_scale.reading_of solid_base.nearest
refused = script_some refused_lines

-- a session is `@` and a number above 0; not each command may stand after `live`
abbrev named_lines : List ℕ
named_lines =
    codes "@0 newest\n @x newest\n@1 \n@1 live\n@1 live items 3\n@1 live live"

pub named : IsScript named_lines
    (record { session = 0; command = command.Bad (fault.BadLine 1) }
    ∷ record { session = 0; command = command.Bad (fault.BadLine 1) }
    ∷ record { session = 1; command = command.Bad (fault.BadLine 4) }
    ∷ record { session = 1; command = command.Bad (fault.BadLine 8) }
    ∷ record { session = 1; command = command.Bad fault.UnknownCommand }
    ∷ record { session = 1; command = command.Bad fault.UnknownCommand } ∷ [])
unfolding lines_of words_from line_in session_at session_of whole_of coordinate_of entity_of at_least_of grid_of grid_above_of step_of extent_of entity_by whole_by extent_by next_word taken numbers_from no_more record_at kind_named live_named name_at command_at named_command decimal_scale.reading_of solid_base.nearest
named = script_some named_lines

-- the first word that breaks its rule
abbrev broken_lines : List ℕ
broken_lines =
    codes "@1 point 0 0 0 0\n@1 drop 1234567890\n@1 point 1 100000.1 0 0\n"
    ++ codes "@1 cell 1 0 0 0 -1 1 1\n@1 volume 1 0.000001 0 0 1 1 1 2\n"
    ++ codes "@1 volume 1 0 0 0 1 0 1 2\n@1 section 1 0 0 0 0 4 4\n"
    ++ codes "@1 section 1 0 99999 0 1 2 1\n@1 items 3 4\n@1 replace 5 110 0 0  "

pub broken : IsScript broken_lines
    (record { session = 1; command = command.Bad (fault.BadLine 10) }
    ∷ record { session = 1; command = command.Bad (fault.BadLine 9) }
    ∷ record { session = 1; command = command.Bad (fault.BadLine 12) }
    ∷ record { session = 1; command = command.Bad (fault.BadLine 17) }
    ∷ record { session = 1; command = command.Bad (fault.BadLine 13) }
    ∷ record { session = 1; command = command.Bad (fault.BadLine 21) }
    ∷ record { session = 1; command = command.Bad (fault.BadLine 20) }
    ∷ record { session = 1; command = command.Bad (fault.BadLine 26) }
    ∷ record { session = 1; command = command.Bad (fault.BadLine 12) }
    ∷ record { session = 1; command = command.Bad (fault.BadLine 23) } ∷ [])
unfolding lines_of words_from line_in session_at session_of whole_of coordinate_of entity_of at_least_of grid_of grid_above_of step_of extent_of entity_by whole_by extent_by next_word taken numbers_from no_more record_at kind_named live_named name_at command_at named_command decimal_scale.reading_of solid_base.nearest
broken = script_some broken_lines

-- a line of each question; a section's last cell may end at 100,000 units, a cell may have no width
abbrev asked_lines : List ℕ
asked_lines =
    codes "@1 point 3 1.5 -2 0\n@2 live cell 3 0 0 0 0 1 1\n@3 items 3\n"
    ++ codes "@4 section 1 0 99999 0 1 1 1\n@5 volume 1 0 0 0 1 1 1 2\n"
    ++ codes "@6 live bounds 1 0 0 0 1 1 1 0\n@7 export\n@8 newest"

pub asked : IsScript asked_lines
    (record { session = 1; command = command.Ask (question.Point 3 (record { x = pos 1500000000000; y = negsuc 1999999999999; z = pos 0 })) false }
    ∷ record { session = 2; command = command.Ask (question.Cell 3 (record { lo = record { x = pos 0; y = pos 0; z = pos 0 }; hi = record { x = pos 0; y = pos 1000000000000; z = pos 1000000000000 } })) true }
    ∷ record { session = 3; command = command.Ask (question.Items 3) false }
    ∷ record { session = 4; command = command.Ask (question.Section 1 (pos 0) (pos 99999000000000000) (pos 0) (pos 1000000000000) 1 1) false }
    ∷ record { session = 5; command = command.Ask (question.Volume 1 (record { lo = record { x = pos 0; y = pos 0; z = pos 0 }; hi = record { x = pos 1000000000000; y = pos 1000000000000; z = pos 1000000000000 } }) 2) false }
    ∷ record { session = 6; command = command.Ask (question.Bounds 1 (record { lo = record { x = pos 0; y = pos 0; z = pos 0 }; hi = record { x = pos 1000000000000; y = pos 1000000000000; z = pos 1000000000000 } }) 0) true }
    ∷ record { session = 7; command = command.Ask question.Export false }
    ∷ record { session = 8; command = command.Ask question.Newest false } ∷ [])
unfolding lines_of words_from line_in session_at session_of whole_of coordinate_of entity_of at_least_of grid_of grid_above_of step_of extent_of entity_by whole_by extent_by next_word taken numbers_from no_more record_at kind_named live_named name_at command_at named_command decimal_scale.reading_of solid_base.nearest
asked = script_some asked_lines

-- a line of each edit; a record goes up to the line's end, its blanks there too
abbrev edited_lines : List ℕ
edited_lines =
    codes "@1 replace 5 110 0 0  a b \n@1 add 5 110 0 0 a\n@1 drop 7\n@1 commit"

pub edited : IsScript edited_lines
    (record { session = 1; command = command.Replace 5 (row_with 110 0 0 (codes "a b ")) }
    ∷ record { session = 1; command = command.Add 5 (row_with 110 0 0 (codes "a")) }
    ∷ record { session = 1; command = command.Drop 7 }
    ∷ record { session = 1; command = command.Commit } ∷ [])
unfolding lines_of words_from line_in session_at session_of whole_of coordinate_of entity_of at_least_of grid_of grid_above_of step_of extent_of entity_by whole_by extent_by next_word taken numbers_from no_more record_at kind_named live_named name_at command_at named_command decimal_scale.reading_of solid_base.nearest
edited = script_some edited_lines
