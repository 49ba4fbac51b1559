-- The first file answers for its name, and the files after it for every other name.
use Rattle.std.proofs.Common.{◌≡◌, ℕ, ◌-◌, ◌<◌, List, [], ◌∷◌, Some, None, true, false, cond, length, take, drop, get_or, ap, sym, ◌∙◌, subst, arith}
use Rattle.std.specs.FinMap.{get, get-insert, get-empty}
use Rattle.std.specs.Ordering.{nat_cmp}
use Rattle.std.specs.Cmp.Lexicographic.{slice_cmp, nat_list_cmp_total}
use Rattle.std.specs.Str.{bytes_eq}
use Rattle.std.proofs.lemmas.List.{take_all}
use Rattle.std.proofs.lemmas.Map.Text.{is_eq-slice_cmp}
use Rattle.bv_base.specs.MemoryView.{listing_of}
use Rattle.bv_base.specs.declared.mem_files.MemFile.{MemFile}

pub listed_first :
    (name : List ℕ) (file : MemFile) (files : List MemFile) →
    get (listing_of (file ∷ files)) name ≡ cond (bytes_eq name file.name) (Some file.bytes) (get (listing_of files) name)
listed_first name file files =
    get-insert nat_list_cmp_total (listing_of files) file.name file.bytes name
    ∙ ap (λ same. cond same (Some file.bytes) (get (listing_of files) name)) (is_eq-slice_cmp name file.name)

pub listed_found :
    (name : List ℕ) (file : MemFile) (files : List MemFile) →
    0 < length files → file ≡ get_or files 0 file → bytes_eq name file.name ≡ true →
    get (listing_of files) name ≡ Some file.bytes
listed_found name file [] some is same = absurd (omega arith)
listed_found name file (first ∷ rest) some is same =
    let P : MemFile → Type 0 = λ f. bytes_eq name f.name ≡ true → get (listing_of (first ∷ rest)) name ≡ Some f.bytes in
    subst P (sym is) (λ e. listed_first name first rest ∙ ap (λ b. cond b (Some first.bytes) (get (listing_of rest) name)) e) same

pub listed_other :
    (name : List ℕ) (file : MemFile) (files : List MemFile) →
    0 < length files → file ≡ get_or files 0 file → bytes_eq name file.name ≡ false →
    get (listing_of files) name ≡ get (listing_of (take (length files - 1) (drop 1 files))) name
listed_other name file [] some is same = absurd (omega arith)
listed_other name file (first ∷ rest) some is same =
    let P : MemFile → Type 0 = λ f. bytes_eq name f.name ≡ false → get (listing_of (first ∷ rest)) name ≡ get (listing_of rest) name in
    subst P (sym is) (λ e. listed_first name first rest ∙ ap (λ b. cond b (Some first.bytes) (get (listing_of rest) name)) e) same
    ∙ ap (λ fs. get (listing_of fs) name) (sym (take_all (length (first ∷ rest) - 1) rest (omega arith)))

pub listed_none : (name : List ℕ) (files : List MemFile) → length files ≡ 0 → get (listing_of files) name ≡ None
listed_none name [] none = get-empty (slice_cmp nat_cmp) name
listed_none name (first ∷ rest) none = absurd (omega arith)
