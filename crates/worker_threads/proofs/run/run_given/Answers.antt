use denote.Exit.{yes}
use denote.Param.Send.{arg_send, param_send}
use Rattle.worker_threads.proofs.Crossing.{shared_sync}
use Rattle.worker_threads.proofs.run.run_given.Goals as goal

pub run_crew-senders-requires-clause-shared : goal.run_crew-senders-requires-clause-shared
run_crew-senders-requires-clause-shared g c κs within =
    shared_sync _ _ g.D.PageDisk g.O.GivenStore (param_send 0 _ (arg_send _ yes _ c.type_bounds.send-D))
    (param_send 1 _ (arg_send _ yes _ c.type_bounds.send-O))
