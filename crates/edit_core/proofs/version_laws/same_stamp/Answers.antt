use Rattle.edit_core.proofs.SameReach.{stamp_same}
use Rattle.edit_core.proofs.version_laws.same_stamp.Goals as goal

pub returns : goal.returns
returns c opening log v w e s a b h k first second = stamp_same opening log v w e s a b h k first second
