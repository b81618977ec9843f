use Rattle.std.proofs.Common.{None, ◌≡◌, ◌+◌, ◌<◌, ℕ, List, [], length, length-append, slice_index_or, slice_set, sym}
use Rattle.std.proofs.Common.{◌∙◌, ap, refl, subst, arith}
use Rattle.std.proofs.lemmas.List.{get_or_default, length-set}
use Rattle.volume_model.specs.declared.command.Command.{Command}
use Rattle.volume_model.specs.declared.reply.Entry.{Entry}
use Rattle.store_model.specs.Rows.{Row, Ended, entries_of}
use Rattle.running_store.specs.Stages.{stage_seen}
use Rattle.running_store.specs.StoreView.{rows_of}
use Rattle.running_store.specs.Steps.{OnlyRow}
use Rattle.running_store.proofs.Counting.{few_of, left_less, counted_more}
use Rattle.running_store.proofs.OrderKept.{job_on, order_kept}
use Rattle.running_store.proofs.Rowing.{only_row, taken_row}
use Rattle.running_store.proofs.logging.log_then.Goals as goal

pub overflow_add-running : goal.overflow_add-running
overflow_add-running g c =
    let order = c.requires.order in
    let few = few_of c.args.channel c.args.running.now.entries.items in
    let is = order.counted c.args.channel c.requires.channel in
    let small = order.few in
    omega (arith, few, is, small)

pub returns-clause-order : goal.returns-clause-order
returns-clause-order g c =
    let order = c.requires.order in
    let old = c.args.running.now in
    let low : c.args.channel < length old.rows.items = omega (arith, c.requires.channel, order.seventeen) in
    let took = c.in-Some.ensures.some in
    let row = c.index_mut.result.now in
    let value = c.index_mut.ensures.value in
    let less = left_less old.rows.items c.args.channel c.take.new.self row low
    (ap (λ (r : Row). length r.left) (sym value) ∙ ap (λ (l : List Command). length l) took ∙ omega arith) in
    let items = c.push_reserved.ensures.items in
    let marks = c.push_reserved-2.ensures.items in
    let longer = ap (λ (l : List Entry). length l) items ∙ length-append old.entries.items _ in
    let marked = ap (λ (l : List ℕ). length l) marks ∙ length-append old.marks.items _ in
    let room = c.push_reserved.ensures.capacity in
    let mark_room = c.push_reserved-2.ensures.capacity in
    order_kept g.D.PageDisk old order refl refl (record {
      seventeen = length-set old.rows.items c.args.channel c.take.new.self ∙ order.seventeen;
      entries = omega (arith, order.entries, less, longer, room);
      marks = omega (arith, order.marks, less, marked, mark_room);
      few = omega (arith, order.few, less, longer);
      counted = λ k lt. subst (λ l. slice_index_or (slice_set old.logged c.args.channel
          (slice_index_or old.logged c.args.channel 0 + 1)) k 0 ≡ length (entries_of k l)) (sym items)
          (counted_more old.logged old.entries.items (record {
            channel = c.args.channel;
            index = slice_index_or old.logged c.args.channel 0;
            command = c.in-Some.field-0.command;
            reply = c.reply_of-reply.result;
          }) 16 (sym order.counts) c.requires.channel order.counted k lt);
      counts = length-set old.logged c.args.channel _ ∙ order.counts;
    }) order.no_page order.no_cluster (job_on g.D.PageDisk old order order.headed order.kept)

pub returns-clause-row : goal.returns-clause-row
returns-clause-row g c =
    let old = c.args.running.now.rows.items in
    let channel = c.args.channel in
    let low : channel < length old = omega (arith, c.requires.channel, c.requires.order.seventeen) in
    subst (λ (row : Row). OnlyRow old (slice_set old channel c.take.new.self) channel row)
    (taken_row (rows_of old channel) c.take.new.self c.in-Some.field-0.command (stage_seen c.args.next)
    (ap (λ (r : Row). r.left) (get_or_default old channel (record {
      left = [];
      stage = Ended;
      claim = None;
    }) c.index_mut.result.now low ∙ sym c.index_mut.ensures.value) ∙ c.in-Some.ensures.some) c.in-Some.ensures.stage
    c.in-Some.ensures.unclaimed)
    (only_row old channel c.take.new.self low)
