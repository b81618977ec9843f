-- The chains of the blobs that are there.
use Rattle.std.proofs.Common.{◌≡◌, ℕ, List, Option, Some, None, refl, sym, ap, subst, ◌∙◌}
use Rattle.std.specs.Option.{option_and_then}
use Rattle.std.proofs.Math.Path.{fun_ext}
use Rattle.super_block.specs.declared.page.Super.{Super}
use Rattle.blob_meta.specs.declared.meta.Meta.{Meta}
use Rattle.store_model.specs.Maps.{Metas, Chains}
use Rattle.store_model.specs.RunInvariant.{HaveChains}
use Rattle.running_store.specs.Recovered.{chains_of}
use Rattle.unclean_load.specs.Claiming.{AreChains, ChainsAreApart, IsInTwo}
use Rattle.unclean_load.specs.Reading.{AreRead}
use Rattle.unclean_load.proofs.LoadOutcome.{read_chains}

module _ (metas : Metas) (chains : Chains) where
  -- a chain of a blob that is there is one of all
  pub chain_there : (h : ℕ) (ps : List ℕ) → chains_of metas chains h ≡ Some ps → chains h ≡ Some ps
  chain_there h ps is = by (metas h) is
    where
      by : (o : Option Meta) → option_and_then (λ _. chains h) o ≡ Some ps → chains h ≡ Some ps
      by None at = absurd (cc at)
      by (Some m) at = at

  pub chains_there : (md_len : ℕ) → AreChains md_len chains → AreChains md_len (chains_of metas chains)
  chains_there md_len are h ps is = are h ps (chain_there h ps is)

  pub no_chain_there : (h : ℕ) → metas h ≡ None → chains_of metas chains h ≡ None
  no_chain_there h none = ap (option_and_then (λ _. chains h)) none

  -- a place in two of them is in two of all
  pub in_two_there : (head place : ℕ) → IsInTwo (chains_of metas chains) head place → IsInTwo chains head place
  in_two_there head place x = record {
    pages = x.pages;
    chain = chain_there head x.pages x.chain;
    among = x.among;
    other = x.other;
    differs = x.differs;
    others = x.others;
    other_chain = chain_there x.other x.others x.other_chain;
    other_among = x.other_among;
  }

  -- where blobs alone have chains, those of the blobs are all
  pub same_chains : ((h : ℕ) → metas h ≡ None → chains h ≡ None) → chains_of metas chains ≡ chains
  same_chains none = fun_ext (λ h. by h (metas h) refl)
    where
      by : (h : ℕ) (o : Option Meta) → metas h ≡ o → chains_of metas chains h ≡ chains h
      by h None there = ap (option_and_then (λ _. chains h)) there ∙ sym (none h there)
      by h (Some m) there = ap (option_and_then (λ _. chains h)) there

-- chains that were read, of which no two have a place, are those of the blobs
pub have_chains : (s : Super) (metas : Metas) (chains : Chains) → AreRead s metas chains
    → ChainsAreApart (chains_of metas chains) → HaveChains s metas chains
have_chains s metas chains read apart = record {
  chain = λ h m there. let x = read.chain h m there in (x.2.rest, x.1 ∙ ap (λ ps. Some ps) x.2.first);
  none = read.none;
  low = λ h place ps is among. (read_chains s metas chains read h ps is).1.low place among;
  apart = subst ChainsAreApart (same_chains metas chains read.none) apart;
  differ = λ h ps is. (read_chains s metas chains read h ps is).1.differ;
}
