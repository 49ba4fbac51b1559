-- Parts of texts of bytes are of bytes, and so is what is joined or lowered.
use Rattle.std.proofs.Common.{◌≡◌, ℕ, zero, suc, ◌<◌, List, [], ◌∷◌, ◌++◌, take, drop, subst, arith}
use Rattle.std.proofs.lemmas.Bool.Decides.{nat_tests}
use Rattle.bv_base.specs.Bytes.{lower}
use Rattle.name_table.specs.Names.{lowered}
use Rattle.name_table.specs.Numbers.{IsByteList}

pub bytes_joined : (xs ys : List ℕ) → IsByteList xs → IsByteList ys → IsByteList (xs ++ ys)
bytes_joined [] ys h k = k
bytes_joined (x ∷ xs) ys h k = (h.0, bytes_joined xs ys h.1 k)

pub bytes_in_front : (xs ys : List ℕ) → IsByteList (xs ++ ys) → IsByteList xs
bytes_in_front [] ys h = tt
bytes_in_front (x ∷ xs) ys h = (h.0, bytes_in_front xs ys h.1)

pub bytes_behind : (xs ys : List ℕ) → IsByteList (xs ++ ys) → IsByteList ys
bytes_behind [] ys h = h
bytes_behind (x ∷ xs) ys h = bytes_behind xs ys h.1

pub bytes_of_part : (whole before part after : List ℕ) → whole ≡ before ++ (part ++ after) → IsByteList whole → IsByteList part
bytes_of_part whole before part after e h = bytes_in_front part after (bytes_behind before (part ++ after) (subst IsByteList e h))

pub bytes_taken : (n : ℕ) (xs : List ℕ) → IsByteList xs → IsByteList (take n xs)
bytes_taken zero xs h = tt
bytes_taken (suc n) [] h = tt
bytes_taken (suc n) (x ∷ xs) h = (h.0, bytes_taken n xs h.1)

pub bytes_dropped : (n : ℕ) (xs : List ℕ) → IsByteList xs → IsByteList (drop n xs)
bytes_dropped zero xs h = h
bytes_dropped (suc n) [] h = tt
bytes_dropped (suc n) (x ∷ xs) h = bytes_dropped n xs h.1

lower_byte : (b : ℕ) → b < 256 → lower b < 256
lower_byte b h = grind (arith, nat_tests)

pub bytes_lowered : (name : List ℕ) → IsByteList name → IsByteList (lowered name)
bytes_lowered [] h = tt
bytes_lowered (b ∷ name) h = (lower_byte b h.0, bytes_lowered name h.1)
