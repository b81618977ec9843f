use Rattle.store_model.proofs.Scanning.{apart, unlinked_no_head, same_region, unlinked_page}
use Rattle.store_model.proofs.One.{one_scan}
use Rattle.store_model.proofs.laws.scans.Goals as goal

pub returns : goal.returns
returns c = record {
  one = one_scan;
  apart = λ look r metas chains said. apart look r metas chains said;
  no_head = λ look r metas chains said. unlinked_no_head look r metas chains said;
  region = λ look other r metas chains said. same_region look r metas chains said other;
  unlinked = λ look other r metas chains p page said. unlinked_page look r metas chains said other p page;
}
