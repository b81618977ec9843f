use Rattle.std.proofs.Common.{ℕ, List, ◌+◌, ◌^◌, ap, ◌∙◌}
use Rattle.md_page.specs.Page.{page_bytes}
use Rattle.md_chain.specs.Planned.{page_written}
use Rattle.md_chain.proofs.planning.page_of.Goals as goal

pub returns-clause-bytes : goal.returns-clause-bytes
unfolding page_written
returns-clause-bytes c =
    c.write.ensures.bytes
    ∙ ap (λ (h : ℕ). page_bytes (record {
      id = 2 ^ 32 + h;
      sequence = c.args.sequence;
      body = c.write_items.new.into;
      next = c.args.next;
    })) c.from.ensures
    ∙ ap (λ (b : List ℕ). page_bytes (record {
      id = 2 ^ 32 + c.args.head;
      sequence = c.args.sequence;
      body = b;
      next = c.args.next;
    })) c.write_items.ensures.bytes
