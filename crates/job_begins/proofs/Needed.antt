-- How many pages the chain of metadata needs: a number that the metadata alone says.
use Rattle.std.proofs.Common.{◌≡◌, ℕ, ◌+◌, ◌-◌, ◌<◌, ◌≤◌, Bool, true, false, List, length, sym, ap, ◌∙◌, subst, arith}
use Rattle.std.specs.Prelude.{if◌then◌else◌, not}
use Rattle.pools.specs.Pool.{clear_in}
use Rattle.descriptors.specs.declared.item.Item.{Item}
use Rattle.descriptors.proofs.LongestRunsAreOne.{longest_runs_are_one}
use Rattle.blob_meta.specs.declared.meta.Meta.{Meta}
use Rattle.blob_meta.specs.Items.{items_of, IsItemsOf}
use Rattle.md_chain.specs.Packing.{parts_of}
use Rattle.md_chain.proofs.Fitting.{some_parts}
use Rattle.store_model.specs.Jobs.{LacksPages}
use Rattle.job_begins.specs.Begins.{needed}

-- metadata has one list of items
items_are_one : (m : Meta) (a b : List Item) → IsItemsOf m a → IsItemsOf m b → a ≡ b
items_are_one m a b x y =
    x.items_are
    ∙ ap (items_of m) (longest_runs_are_one x.runs y.runs x.longest y.longest (x.spelt ∙ sym y.spelt))
    ∙ sym y.items_are

-- fewer are clear than are needed, of a blob that is there or new
lacking : (makes : Bool) (clear parts : ℕ) → 0 < parts → clear < (if makes then parts else parts - 1)
    → clear < (if not makes then parts - 1 else parts - 1 + 1)
lacking true clear parts some low = omega (arith, some, low)
lacking false clear parts some low = low

enough_for : (makes : Bool) (clear count : ℕ) → (if makes then count + 1 else count + 1 - 1) ≤ clear
    → clear < (if not makes then count else count + 1) → ⊥
enough_for true clear count enough low = omega (arith, enough, low)
enough_for false clear count enough low = omega (arith, enough, low)

module _ (m : Meta) (items : List Item) (are : IsItemsOf m items) (makes : Bool) (bits : List Bool) where
  -- fewer pages are clear than the items need
  pub lacks_pages : clear_in bits < needed makes items → LacksPages (not makes) m bits
  lacks_pages low = let some = some_parts 4072 items in record {
    count = length (parts_of items) - 1;
    needs = record { items = items; are = are; chain = omega (arith, some) };
    lacking = lacking makes (clear_in bits) (length (parts_of items)) some low;
  }

  -- or as many are
  pub has_pages : needed makes items ≤ clear_in bits → ¬ LacksPages (not makes) m bits
  has_pages enough x =
      let long : length (parts_of items) ≡ x.count + 1 =
      sym (ap (λ l. length (parts_of l)) (items_are_one m x.needs.items items x.needs.are are)) ∙ x.needs.chain in
      enough_for makes (clear_in bits) x.count
      (subst (λ n. (if makes then n else n - 1) ≤ clear_in bits) long enough) x.lacking
