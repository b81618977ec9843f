use Rattle.blob_tool.proofs.driving.drive_store.Goals as goal

pub returns-in-Threads-clause-ended : goal.returns-in-Threads-clause-ended
returns-in-Threads-clause-ended g c ran = record {
  over = c.run_threads-plant.ensures.ended ran;
  unused = c.run_threads-plant.ensures.unused ran;
  no_job = c.run_threads-plant.ensures.no_job ran;
}
