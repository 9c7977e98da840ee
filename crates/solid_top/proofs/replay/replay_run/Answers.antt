use Rattle.std.proofs.Common.{refl, codes, ◌++◌}
use Rattle.solid_questions.specs.declared.questions.Question.TheVariants as question
use Rattle.solid_top.proofs.Meaning.{asked_lawful, other_head, if_ok_both, if_ok_then, in_answer, lawful_text, rows_lawful}
use Rattle.solid_top.proofs.replay.replay_run.Goals as goal

pub returns-clause-legal : goal.returns-clause-legal
returns-clause-legal g c =
    if_ok_both c.answer_bytes.result _ _ _ (λ out replayed lawful. λ done opening lines is. lawful_text c.args.bytes.now out replayed lawful done opening lines is) c.answer_bytes.ensures.replayed c.answer_bytes.ensures.lawful

pub returns-clause-inside : goal.returns-clause-inside
returns-clause-inside g c =
    if_ok_then c.answer_bytes.result _ _ (λ out lawful. λ model e at h.
    c.points.ensures.inside model e at (codes "INSIDE") (rows_lawful c.args.bytes.now out.text c.requires lawful model (question.Point e at) (codes "INSIDE") h) (in_answer c.args.bytes.now out.text c.requires lawful model (question.Point e at) (codes "INSIDE") h (λ later e. other_head 73 _ _ refl e)) refl)
    c.answer_bytes.ensures.lawful

pub returns-clause-outside : goal.returns-clause-outside
returns-clause-outside g c =
    if_ok_then c.answer_bytes.result _ _ (λ out lawful. λ model e at h.
    c.points.ensures.outside model e at (codes "OUTSIDE") (rows_lawful c.args.bytes.now out.text c.requires lawful model (question.Point e at) (codes "OUTSIDE") h) (in_answer c.args.bytes.now out.text c.requires lawful model (question.Point e at) (codes "OUTSIDE") h (λ later e. other_head 79 _ _ refl e)) refl)
    c.answer_bytes.ensures.lawful

pub returns-clause-undecided : goal.returns-clause-undecided
returns-clause-undecided g c =
    if_ok_then c.answer_bytes.result _ _ (λ out lawful. λ model e at rest h.
    c.points.ensures.undecided model e at (codes "UNDECIDED " ++ rest) rest (in_answer c.args.bytes.now out.text c.requires lawful model (question.Point e at) (codes "UNDECIDED " ++ rest) h (λ later e. other_head 85 _ _ refl e)) refl)
    c.answer_bytes.ensures.lawful

pub returns-clause-cell_inside : goal.returns-clause-cell_inside
returns-clause-cell_inside g c =
    if_ok_then c.answer_bytes.result _ _ (λ out lawful. λ model e cube h.
    c.boxes.ensures.inside model e cube (codes "INSIDE") (rows_lawful c.args.bytes.now out.text c.requires lawful model (question.Cell e cube) (codes "INSIDE") h) (in_answer c.args.bytes.now out.text c.requires lawful model (question.Cell e cube) (codes "INSIDE") h (λ later e. other_head 73 _ _ refl e)) refl)
    c.answer_bytes.ensures.lawful

pub returns-clause-cell_outside : goal.returns-clause-cell_outside
returns-clause-cell_outside g c =
    if_ok_then c.answer_bytes.result _ _ (λ out lawful. λ model e cube h.
    c.boxes.ensures.outside model e cube (codes "OUTSIDE") (rows_lawful c.args.bytes.now out.text c.requires lawful model (question.Cell e cube) (codes "OUTSIDE") h) (in_answer c.args.bytes.now out.text c.requires lawful model (question.Cell e cube) (codes "OUTSIDE") h (λ later e. other_head 79 _ _ refl e)) refl)
    c.answer_bytes.ensures.lawful

pub returns-clause-cell_undecided : goal.returns-clause-cell_undecided
returns-clause-cell_undecided g c =
    if_ok_then c.answer_bytes.result _ _ (λ out lawful. λ model e cube rest h.
    c.boxes.ensures.undecided model e cube (codes "UNDECIDED " ++ rest) rest (in_answer c.args.bytes.now out.text c.requires lawful model (question.Cell e cube) (codes "UNDECIDED " ++ rest) h (λ later e. other_head 85 _ _ refl e)) refl)
    c.answer_bytes.ensures.lawful

pub returns-clause-section_inside : goal.returns-clause-section_inside
returns-clause-section_inside g c =
    if_ok_then c.answer_bytes.result _ _ (λ out lawful. λ model e nx ny i j z x0 y0 step rest h column line sign.
    c.sections.ensures.inside model e nx ny i j z x0 y0 step (codes "SECTION" ++ rest) rest (rows_lawful c.args.bytes.now out.text c.requires lawful model (question.Section e z x0 y0 step nx ny) (codes "SECTION" ++ rest) h) (asked_lawful c.args.bytes.now out.text c.requires lawful model (question.Section e z x0 y0 step nx ny) (codes "SECTION" ++ rest) h) (in_answer c.args.bytes.now out.text c.requires lawful model (question.Section e z x0 y0 step nx ny) (codes "SECTION" ++ rest) h (λ later e. other_head 83 _ _ refl e)) refl column line sign)
    c.answer_bytes.ensures.lawful

pub returns-clause-section_outside : goal.returns-clause-section_outside
returns-clause-section_outside g c =
    if_ok_then c.answer_bytes.result _ _ (λ out lawful. λ model e nx ny i j z x0 y0 step rest h column line sign.
    c.sections.ensures.outside model e nx ny i j z x0 y0 step (codes "SECTION" ++ rest) rest (rows_lawful c.args.bytes.now out.text c.requires lawful model (question.Section e z x0 y0 step nx ny) (codes "SECTION" ++ rest) h) (asked_lawful c.args.bytes.now out.text c.requires lawful model (question.Section e z x0 y0 step nx ny) (codes "SECTION" ++ rest) h) (in_answer c.args.bytes.now out.text c.requires lawful model (question.Section e z x0 y0 step nx ny) (codes "SECTION" ++ rest) h (λ later e. other_head 83 _ _ refl e)) refl column line sign)
    c.answer_bytes.ensures.lawful

pub returns-clause-volume : goal.returns-clause-volume
returns-clause-volume g c =
    if_ok_then c.answer_bytes.result _ _ (λ out lawful. λ model e depth cube rest h.
    c.volumes.ensures.counts model e cube depth (codes "VOLUME" ++ rest) rest (rows_lawful c.args.bytes.now out.text c.requires lawful model (question.Volume e cube depth) (codes "VOLUME" ++ rest) h) (in_answer c.args.bytes.now out.text c.requires lawful model (question.Volume e cube depth) (codes "VOLUME" ++ rest) h (λ later e. other_head 86 _ _ refl e)) refl)
    c.answer_bytes.ensures.lawful

pub returns-clause-bounds : goal.returns-clause-bounds
returns-clause-bounds g c =
    if_ok_then c.answer_bytes.result _ _ (λ out lawful. λ model e depth cube rest h.
    c.extents.ensures.outside model e cube depth (codes "BOUNDS" ++ rest) rest (rows_lawful c.args.bytes.now out.text c.requires lawful model (question.Bounds e cube depth) (codes "BOUNDS" ++ rest) h) (asked_lawful c.args.bytes.now out.text c.requires lawful model (question.Bounds e cube depth) (codes "BOUNDS" ++ rest) h) (in_answer c.args.bytes.now out.text c.requires lawful model (question.Bounds e cube depth) (codes "BOUNDS" ++ rest) h (λ later e. other_head 66 _ _ refl e)) refl)
    c.answer_bytes.ensures.lawful

pub returns-clause-empty : goal.returns-clause-empty
returns-clause-empty g c =
    if_ok_then c.answer_bytes.result _ _ (λ out lawful. λ model e depth cube h.
    c.extents.ensures.empty model e cube depth (codes "EMPTY") (rows_lawful c.args.bytes.now out.text c.requires lawful model (question.Bounds e cube depth) (codes "EMPTY") h) (asked_lawful c.args.bytes.now out.text c.requires lawful model (question.Bounds e cube depth) (codes "EMPTY") h) (in_answer c.args.bytes.now out.text c.requires lawful model (question.Bounds e cube depth) (codes "EMPTY") h (λ later e. other_head 69 _ _ refl e)) refl)
    c.answer_bytes.ensures.lawful
