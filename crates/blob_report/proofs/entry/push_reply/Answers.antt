use Rattle.std.proofs.Common.{subst, List, ℕ, OnOk, ◌≡◌, ◌++◌}
use Rattle.blob_report.specs.PageText.{page_text}
use Rattle.blob_report.proofs.entry.push_reply.Goals as goal

pub returns-in-Content-clause-ok : goal.returns-in-Content-clause-ok
returns-in-Content-clause-ok c =
    rw c.in-Content.is (subst (λ (l : List ℕ). OnOk c.push_page.result
    (c.push_page.new.into.items ≡ c.args.into.now.items ++ page_text l)) c.deref.ensures c.push_page.ensures.ok)
