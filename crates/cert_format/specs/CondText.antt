-- The texts of conditions: limits and order, and the spelling (docs/CERTIFICATES.md, "Conditions").
use Rattle.std.specs.Prelude.{◌≡◌, ℕ, ◌≤◌, Bool, true, ◌&&◌, nat_lt, List, [], ◌∷◌}
use Rattle.std.specs.Cmp.Lexicographic.{slice_cmp}
use Rattle.std.specs.Ordering.{is_lt, nat_cmp}
use Rattle.bst_meaning.specs.declared.condition.Cond.{Cond}
use Rattle.bst_meaning.specs.declared.condition.NamesLine.{NamesLine}
use Rattle.name_table.specs.Names.{kind_at}
use Rattle.name_table.specs.Sound.{AreApart, Each}
use Rattle.name_table.specs.declared.names.Kind.{Kind}
use Rattle.name_table.specs.declared.names.NameId.{NameId}
use Rattle.cert_format.specs.Items.{is_field, is_type}
use Rattle.cert_format.specs.Spelling.{cond_items, text_of}
use Rattle.cert_format.specs.declared.limits.TheConstants.{MOST, MOST_ENTRIES}

-- each item of a list stands before the next one
abbrev pub is_chain : {A : Type 0} → (A → A → Bool) → List A → Bool
is_chain before [] = true
is_chain before (first ∷ []) = true
is_chain before (first ∷ (second ∷ rest)) = before first second && is_chain before (second ∷ rest)

-- a name is below another by their ids
abbrev pub is_below : NameId → NameId → Bool
is_below a b = nat_lt a.0 b.0

-- the id is that of a field
abbrev pub IsField : List (List ℕ × Kind) → NameId → Type 0
IsField names id = is_field (kind_at id names) ≡ true

-- a line on names is within its limit
abbrev pub IsNamesLine : List (List ℕ × Kind) → NamesLine → Type 0
IsNamesLine names line = IsField names line.field × (line.most ≤ MOST)

-- a condition keeps the limits, and its lists go upwards
pub record IsCond (names : List (List ℕ × Kind)) (cond : Cond) : Type 0 where
  pub entries : cond.entries ≤ MOST_ENTRIES
  pub key : cond.key ≤ MOST
  pub preamble : cond.preamble ≤ MOST
  pub length : cond.length ≤ MOST
  pub bounds : Each (IsNamesLine names) cond.names
  pub names_rise : is_chain (λ a b. is_below a.field b.field) cond.names ≡ true
  pub fields : Each (IsField names) cond.nonblank
  pub nonblank_rise : is_chain is_below cond.nonblank ≡ true
  pub types : Each (λ name. is_type name ≡ true) cond.types
  pub types_rise : is_chain (λ a b. is_lt (slice_cmp nat_cmp a b)) cond.types ≡ true

-- names that can be items: no two are the same, and each is one byte or more without white space
pub record ArePlain (names : List (List ℕ × Kind)) : Type 0 where
  pub apart : AreApart names
  pub solid : Each (λ entry. is_type entry.0 ≡ true) names

-- a text is that of a condition: this keeps the limits and the order, and the text is its spelling
pub record CondText (names : List (List ℕ × Kind)) (source : List ℕ) (cond : Cond) : Type 0 where
  pub kept : IsCond names cond
  pub spelled : source ≡ text_of (cond_items names cond)
