use Rattle.std.proofs.Crossing as heap
use denote.Exit.{yes}
use denote.Param.Send.{param_send, param_sync, arg_send}
use Rattle.solid_top.specs.contracts.serve.Job as Job
use Rattle.solid_top.specs.contracts.serve.Done as Done
use Rattle.solid_top.proofs.SentJobs.{job_send, done_send, turn_sync}
use Rattle.solid_top.proofs.serve.run_all.Lts.{arg-0-4}
use Rattle.solid_top.proofs.serve.run_all.Goals as goal

pub map_vec-requires-send-J : goal.map_vec-requires-send-J
map_vec-requires-send-J g c κs within = param_send 1 _ (arg_send _ yes Job.the_row job_send)

pub map_vec-requires-send-X : goal.map_vec-requires-send-X
map_vec-requires-send-X g c κs within = param_send 2 _ (arg_send _ yes Done.the_row done_send)

-- the closure holds four references
pub map_vec-requires-sync-F : goal.map_vec-requires-sync-F
map_vec-requires-sync-F g c κs within =
    param_sync 4 (arg-0-4 g.row.R g.row.G g.R.laws g.G.laws g.R.Threads-dict g.R.Wait-dict g.G.Gate-dict κs) (record {
      shared = λ x b o κ. (
        (
          ((λ q. tt), c.type_bounds.sync-R.shared x.0.now x.0.ref_ptr.0 x.0.ref_ptr.1 _),
          (
            ((λ q. tt), heap.sync.shared x.1.now x.1.ref_ptr.0 x.1.ref_ptr.1 κ),
            (
              ((λ q. tt), turn_sync.shared x.2.now x.2.ref_ptr.0 x.2.ref_ptr.1 _),
              (
                ((λ q. tt), c.type_bounds.sync-G.shared x.3.now x.3.ref_ptr.0 x.3.ref_ptr.1 _),
                tt,
              ),
            ),
          ),
        ),
        λ q. tt,
      );
    })
