-- No blob is frozen once the store stops: that which its job froze is released.
use Rattle.std.proofs.Common.{◌≡◌, false, refl}
use Rattle.std.specs.FinSet as set
use Rattle.page_disk.specs.declared.disk.PageDisk.{Ghosts}
use Rattle.store_model.specs.Guarding.{IsGuarded}
use Rattle.running_store.specs.Places.{thawed as released}
use Rattle.running_store.specs.Steps.{freeze_in}
use Rattle.running_store.specs.StoreView.{state_of, StoreView}
use Rattle.running_store.proofs.Thawed.{all_thawed}

abbrev pub IsThawed : {D : Type 0} → StoreView D → Type 0
IsThawed p = set.contains (released p.guards (freeze_in p.job)).frozen ≡ (λ head. false)

pub thawed : {D : Type 0} (d : Ghosts D) (p : StoreView D) → IsGuarded (state_of d p) → IsThawed p
thawed d p guarded = all_thawed (state_of d p) guarded p.guards refl p.job refl
