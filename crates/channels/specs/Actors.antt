-- The actors of a schedule as those of a run.
use Rattle.std.specs.Prelude.{List, map}
use Rattle.script_lang.specs.declared.schedule.Actor.{Actor}
use Rattle.script_lang.specs.declared.schedule.Actor.TheVariants as actor
use Rattle.run_work.specs.Following.{ActorInRun, ChannelActs, MetadataActs}

abbrev pub actor_in_run : Actor → ActorInRun
actor_in_run (actor.Channel channel) = ChannelActs channel
actor_in_run actor.Metadata = MetadataActs

abbrev pub actors_in_run : List Actor → List ActorInRun
actors_in_run actors = map actor_in_run actors
