use Rattle.std.proofs.Common.{◌≡◌, ◌++◌, ◌∷◌, [], true, false, rules, drop}
use Rattle.std.specs.Str.{bytes_eq}
use Rattle.volume_model.specs.Xattrs.{with_value}
use Rattle.volume_model.proofs.Attributes.{set_here, passed, copied}
use Rattle.volume_model.proofs.xattrs.ListOf+Xattr.with_value.Goals as goal
use Rattle.volume_model.proofs.xattrs.ListOf+Xattr.with_value.Goals.{then-not-is_set+then-eq+in_ok-new+in_ok-push}
use Rattle.volume_model.proofs.xattrs.ListOf+Xattr.with_value.Goals.{else-not-is_set+in_ok-try_copy+in_ok-push-2}
use Rattle.volume_model.proofs.xattrs.ListOf+Xattr.with_value.Goals.{else-not-is_set-via-then-not-is_set+else-eq}
use Rattle.volume_model.proofs.xattrs.ListOf+Xattr.with_value.Goals.{else-not-is_set-via-else-not-is_set}

pub loop-xattr-preserved : goal.loop-xattr-preserved
loop-xattr-preserved c =
    let items = c.as_slice-xattr-items.result.now in
    let i = c.loop-xattr.xattr-index in
    let x = c.xattr-item.result in
    let list = c.loop-xattr.list in
    let all = with_value items c.args.key.now c.args.value.now in
    elim c.if-not-is_set.branch [
      | then-not-is_set+then-eq+in_ok-new+in_ok-push w ↦
          let unset : c.loop-xattr.is_set ≡ false = search rules in
          let so_far : list ++ with_value (drop i items) c.args.key.now c.args.value.now ≡ all =
          rw unset at c.loop-xattr.invariant in
          let test : bytes_eq x.key c.args.key.now ≡ true = search rules in
          let pushed : c.if-not-is_set.list ≡ list ++ (record { key = c.args.key.now; value = c.args.value.now }) ∷ [] =
          cc (w.in_ok-push.ensures.ok, w.in_ok-new.ensures) in
          let set : c.if-not-is_set.is_set ≡ true = w.is_set-is in
          rw (pushed, set) (set_here items i x (search rules) c.xattr-item.is list all c.args.key.now c.args.value.now
          (search rules) test so_far)
      | else-not-is_set+in_ok-try_copy+in_ok-push-2 w ↦
          let pushed : c.if-not-is_set.list ≡ list ++ x ∷ [] =
          cc (w.in_ok-push-2.ensures.ok, w.in_ok-try_copy.ensures) in
          let same : c.if-not-is_set.is_set ≡ c.loop-xattr.is_set = w.is_set-is in
          elim w.else-not-is_set.branch [
            | else-not-is_set-via-then-not-is_set+else-eq u ↦
                let unset : c.loop-xattr.is_set ≡ false = search rules in
                let so_far : list ++ with_value (drop i items) c.args.key.now c.args.value.now ≡ all =
                rw unset at c.loop-xattr.invariant in
                let test : bytes_eq x.key c.args.key.now ≡ false = search rules in
                rw (pushed, same, unset) (passed items i x (search rules) c.xattr-item.is list all c.args.key.now
                c.args.value.now test so_far)
            | else-not-is_set-via-else-not-is_set u ↦
                let set : c.loop-xattr.is_set ≡ true = u.if-not-is_set.false in
                let so_far : list ++ drop i items ≡ all = rw set at c.loop-xattr.invariant in
                rw (pushed, same, set) (copied items i x (search rules) c.xattr-item.is list all so_far)
          ]
    ]
