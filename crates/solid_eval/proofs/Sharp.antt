-- A primitive of a sharp kind that no matrix moves has at a single point the exact class.
use Rattle.std.proofs.Common.{◌≡◌, ℕ, List, [], sym, ap, ◌∙◌}
use Rattle.solid_base.specs.declared.entities.Entity.{Entity}
use Rattle.solid_base.specs.declared.geometry.Vec3.{Vec3}
use Rattle.solid_base.specs.declared.solids.Primitive.{Primitive}
use Rattle.solid_base.specs.declared.solids.Row.TheVariants as row
use Rattle.solid_base.specs.Range.{IsPointWithin, far}
use Rattle.solid_base.specs.Ranges.{IsLawfulPrim}
use Rattle.solid_base.specs.References.{row_at}
use Rattle.fixed_enclosure.specs.Places.{spans_of}
use Rattle.fixed_enclosure.specs.Spans.{box_of}
use Rattle.csg_primitives.specs.Sharpness.{IsSharp, point_cube}
use Rattle.csg_primitives.specs.WrittenMargins.{written_class}
use Rattle.csg_primitives.proofs.SharpMargins.{sharp}
use Rattle.affine_pull.proofs.Levels.{chain-none}
use Rattle.solid_eval.specs.Solids.{primitive, solid_of}
use Rattle.solid_eval.specs.Classes.{place_class}
use Rattle.solid_eval.specs.Written.{written}
use Rattle.solid_eval.proofs.FromUses.{primitive_solid}
use Rattle.solid_eval.proofs.Sound.{named_class}

module _ (rows : List Entity) (e : ℕ) (p : Primitive) (at : Vec3) where
  pub sharp_point : row_at rows e ≡ row.Prim p 0 → IsLawfulPrim p → IsSharp p
      → IsPointWithin far at
      → (written (solid_of rows e) (spans_of (box_of (point_cube at)))).class
      ≡ place_class 1 (solid_of rows e) at
  sharp_point is lawful kind near =
      let unmoved : solid_of rows e ≡ primitive e [] p =
      primitive_solid rows e 0 p is ∙ ap (λ chain. primitive e chain p) (chain-none rows) in
      let box = box_of (point_cube at) in
      ap (λ solid. (written solid (spans_of box)).class) unmoved
      ∙ named_class e (written_class p box)
      ∙ sharp p at lawful kind near
      ∙ sym (ap (λ solid. place_class 1 solid at) unmoved)
