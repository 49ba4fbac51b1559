-- Each name of a file that is given is UTF-8.
use Rattle.std.proofs.Common.{◌≡◌, ℕ, Bool, true, false, cond, nat_eq, List, codes, Ok}
use Rattle.std.specs.Cmp.Lexicographic.{pointwise}
use Rattle.bv_base.specs.declared.place.Place.{Place}
use Rattle.aux_read.specs.declared.aux.Aux.{Aux}
use Rattle.aux_read.specs.declared.aux.AuxItem.{AuxItem}
use Rattle.aux_read.specs.declared.aux.AuxItem.TheVariants.{All, Cite, Input}
use Rattle.aux_read.specs.FileNames.{GivesFileNames, HasFileName}
use Rattle.aux_read.specs.Lines.{citation, with_item}
use Rattle.aux_read.specs.Reading.{aux_of}
use Rattle.aux_read.proofs.Keeping.{Keeps, aux_keeps, push_all}

citation_named : (item : List ℕ) → HasFileName (citation item)
citation_named item = by (pointwise nat_eq item (codes "*"))
  where
    by : (b : Bool) → HasFileName (cond b All (Cite item))
    by true = tt
    by false = tt

-- a further request has the name of a file, where it needs one
item_added : (item : AuxItem) (aux : Aux) → HasFileName item → GivesFileNames aux → GivesFileNames (with_item item aux)
item_added item aux is given =
    record { items = push_all HasFileName aux.items item given.items is; style = given.style; databases = given.databases }

-- what is read gives names of files
pub aux_named : (source : List ℕ) (aux : Aux) → aux_of source ≡ Ok aux → GivesFileNames aux
aux_named = aux_keeps GivesFileNames kept (record { items = tt; style = tt; databases = tt })
  where
    kept : (place : Place) → Keeps GivesFileNames place
    kept place = record {
      cites = λ item aux is given. item_added (citation item) aux (citation_named item) given;
      databases = λ names aux all given. record { items = given.items; style = given.style; databases = all };
      style = λ name aux is given. record { items = given.items; style = is; databases = given.databases };
      inputs = λ name aux is given. item_added (Input name place) aux is given;
    }
