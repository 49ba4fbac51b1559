-- Each key that is cited has a byte and no white space.
use Rattle.std.proofs.Common.{◌≡◌, ℕ, Bool, true, false, cond, nat_eq, List, codes, Ok}
use Rattle.std.specs.Cmp.Lexicographic.{pointwise}
use Rattle.bv_base.specs.declared.place.Place.{Place}
use Rattle.bv_base.specs.Keys.{IsKey}
use Rattle.aux_read.specs.declared.aux.Aux.{Aux}
use Rattle.aux_read.specs.declared.aux.AuxItem.TheVariants.{All, Cite, Input}
use Rattle.aux_read.specs.Keys.{HasKey, HaveKeys}
use Rattle.aux_read.specs.Lines.{citation}
use Rattle.aux_read.specs.Reading.{aux_of}
use Rattle.aux_read.proofs.Keeping.{Keeps, aux_keeps, push_all}

citation_key : (item : List ℕ) → IsKey item → HasKey (citation item)
citation_key item is = by (pointwise nat_eq item (codes "*"))
  where
    by : (b : Bool) → HasKey (cond b All (Cite item))
    by true = tt
    by false = is

-- what is read has keys
pub aux_keys : (source : List ℕ) (aux : Aux) → aux_of source ≡ Ok aux → HaveKeys aux.items
aux_keys = aux_keeps (λ aux. HaveKeys aux.items) kept tt
  where
    kept : (place : Place) → Keeps (λ aux. HaveKeys aux.items) place
    kept place = record {
      cites = λ item aux is keys. push_all HasKey aux.items (citation item) keys (citation_key item is);
      databases = λ names aux all keys. keys;
      style = λ name aux is keys. keys;
      inputs = λ name aux is keys. push_all HasKey aux.items (Input name place) keys tt;
    }
