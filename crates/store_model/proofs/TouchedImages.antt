-- Which images a touch of the device leaves on the way, and after it.
use Rattle.std.proofs.Common.{◌≡◌, List, [], ◌∷◌, ◌++◌, length, sym, ap, subst, ◌∙◌}
use Rattle.std.proofs.Common.{arith, length-append}
use Rattle.page_disk.specs.Disk.{Image}
use Rattle.page_disk.specs.Moments.{CallsLeave, CallsLeaveOnly}
use Rattle.page_disk.specs.declared.disk.PageDisk.{Ghosts}
use Rattle.page_disk.proofs.Moments.{started}
use Rattle.volume_model.specs.Steps.{IsRefusal}
use Rattle.volume_model.specs.declared.reply.Reply.{Reply}
use Rattle.volume_model.specs.declared.reply.Entry.{Entry}
use Rattle.store_model.specs.Touches.{DoesTouch, no_new, left_by, puts, replaces, Touch, untouched}
use Rattle.store_model.proofs.Over.{Over}
pub use Rattle.store_model.proofs.AtStart.{told_reads, stands_whole, holds_loaded, survives_start}

-- a device that was touched so leaves these images on the way
pub run_of : {D : Type 0} (d : Ghosts D) (x : Over d) (touch : Touch) → DoesTouch d x.from x.to touch
    → CallsLeaveOnly d x.from x.to (left_by touch (d.images x.from) (d.now x.from))
run_of {D} d x untouched same = λ _. subst (λ (disk : D). CallsLeave d x.from disk (d.images x.from)) (sym same)
    (started d x.from (d.images x.from) (λ c left. x.law.since_now x.from c left))
run_of d x (puts page content lasting) does = does.moments
run_of d x (replaces page content lasting) does = does.moments
run_of d x (no_new lasting) does = does.moments

-- each image left after the turn is one of those on the way
pub left_of : {D : Type 0} (d : Ghosts D) (x : Over d) (touch : Touch) → DoesTouch d x.from x.to touch → (c : Image)
    → d.images x.to c → left_by touch (d.images x.from) (d.now x.from) c
left_of d x touch does c held =
    let run = run_of d x touch does x.told in run.each c (x.law.counts_now x.to (d.clock x.from) c run.later held)

pub is_idle : (reply other : Reply) → reply ≡ other → IsRefusal other → IsRefusal reply
is_idle reply other is idle = subst IsRefusal (sym is) idle

-- no log grows and stays
pub not_longer : (l m : List Entry) (e : Entry) → m ≡ l → m ≡ l ++ e ∷ [] → ⊥
not_longer l m e same longer =
    let a = ap (λ (k : List Entry). length k) (sym same ∙ longer) in
    let b = length-append l (e ∷ []) in omega (arith, a, b)
