-- A style that is read, and what comes after it.
use Rattle.std.proofs.Common.{◌≡◌, ℕ, true, false, cond, nat_lt, List, length, Option, None, Some, Result, Ok, Err, refl, ap, subst}
use Rattle.std.specs.FinMap.{get}
use Rattle.bv_base.specs.Answers.{then_do}
use Rattle.bv_base.specs.Outside.{Listing}
use Rattle.bv_base.specs.declared.files.Begun.{Begun}
use Rattle.bv_base.specs.declared.files.Files.{Ghosts}
use Rattle.bv_base.specs.declared.limits.TheConstants.{STYLE_BYTES}
use Rattle.name_table.specs.declared.style.Style.{Style}
use Rattle.bst_parse.specs.declared.fault.StyleFault.{StyleFault}
use Rattle.bst_parse.specs.Reading.{style_of}
use Rattle.bst_run.specs.declared.outcome.Outcome.{Outcome}
use Rattle.bst_run.specs.declared.stop.Stop.{Stop}
use Rattle.bst_run.specs.Files.{whole_file, file_in}
use Rattle.bst_run.specs.FilesBegun.{Begins, file_begun, style_begun, then_begun}
use Rattle.bst_run.specs.Reads.{Reads}
use Rattle.bst_run.specs.Report.{too_long}
use Rattle.bst_run.specs.Sources.{HoldsStyle, read_style}
use Rattle.bst_run.specs.Stops.{Gives, Decides}
use Rattle.bst_run.proofs.BegunLemmas.{begins_after, begins_next, begins_refused, begins_stopped}
use Rattle.bst_run.proofs.ReadsLemmas.{reads_next, reads_nothing}

-- the style is read, and then what comes after it
pub style_reads : {F A : Type 0} (see : Ghosts F) (old mid new : F) (style_name bytes bytes' : List ℕ) (style : Style)
    (next : Listing → Style → Result A Outcome) (result : Result A Stop)
    → bytes' ≡ bytes → Reads {F = F} {A = List ℕ} see old mid (λ t. file_in t STYLE_BYTES style_name) (Ok bytes)
    → Decides {A = Style} (read_style (style_of bytes')) (Ok style) → Reads {F = F} {A = A} see mid new (λ t. next t style) result
    → Reads {F = F} {A = A} see old new (λ t. then_do (file_in t STYLE_BYTES style_name) (λ b. then_do (read_style (style_of b)) (next t))) result
style_reads {A = A} see old mid new style_name bytes bytes' style next result e style_file read more =
    reads_next see old mid new (λ t. file_in t STYLE_BYTES style_name) bytes (λ t b. then_do (read_style (style_of b)) (next t)) result style_file
    (reads_next see mid mid new (λ t. read_style (style_of bytes)) style next result
    (reads_nothing see mid (read_style (style_of bytes)) (Ok style)
    (subst (λ (b : List ℕ). Decides {A = Style} (read_style (style_of b)) (Ok style)) e read) tt)
    more)

-- a file that was read is there
pub there : (name bytes : List ℕ) (file : Option (List ℕ)) → whole_file STYLE_BYTES name file ≡ Ok bytes → file ≡ Some bytes
there name bytes None is = absurd (cc)
there name bytes (Some b) is = by_length (nat_lt STYLE_BYTES (length b)) is
  where
    by_length : (long : _) → cond long (Err (too_long name)) (Ok b) ≡ Ok bytes → Some b ≡ Some bytes
    by_length true is = absurd (cc)
    by_length false is = cc

-- a style that was read
pub is_style : (r : Result Style StyleFault) (style : Style) → read_style r ≡ Ok style → r ≡ Ok style
is_style (Ok s) style is =
    let same : s ≡ style = cc in
    ap Ok same
is_style (Err fault) style is = absurd (cc)

-- a style that was read of a file is the one that the file holds
pub holds_style : (told : Listing) (name bytes bytes' : List ℕ) (style : Style) → bytes' ≡ bytes
    → Gives {A = List ℕ} (Some told) (λ t. file_in t STYLE_BYTES name) (Ok bytes) → Decides {A = Style} (read_style (style_of bytes')) (Ok style)
    → HoldsStyle told name style
holds_style told name bytes bytes' style e file read = record {
  bytes = bytes;
  file = there name bytes (get told name) file;
  read = is_style (style_of bytes) style (subst (λ (b : List ℕ). read_style (style_of b) ≡ Ok style) e read);
}

-- what is begun after a style that is read
module _ (after : Listing → List Begun) where
  -- the style isn't read, and no more is begun
  pub style_unread_begun : (B : Type 0) (told : Option Listing) (style_name : List ℕ) (old new : List Begun) (stop : Stop)
      → Gives {A = List ℕ} told (λ t. file_in t STYLE_BYTES style_name) (Err stop) → Begins {A = List ℕ} told (λ t. file_begun t style_name) old new (Err stop)
      → Begins {A = B} told (λ t. style_begun t style_name (after t)) old new (Err stop)
  style_unread_begun B told style_name old new stop gives first =
      begins_stopped {A = List ℕ} B told (λ t. file_in t STYLE_BYTES style_name) (λ t. file_begun t style_name)
      (λ t b. then_begun {A = Style} (read_style (style_of b)) (λ _. after t)) old new stop gives first

  -- the bytes are no style, and no more is begun
  pub style_refused_begun : (B : Type 0) (told : Option Listing) (style_name bytes bytes' : List ℕ) (old new : List Begun) (stop : Stop)
      → bytes' ≡ bytes → Gives {A = List ℕ} told (λ t. file_in t STYLE_BYTES style_name) (Ok bytes)
      → Begins {A = List ℕ} told (λ t. file_begun t style_name) old new (Ok bytes) → Decides {A = Style} (read_style (style_of bytes')) (Err stop)
      → Begins {A = B} told (λ t. style_begun t style_name (after t)) old new (Err stop)
  style_refused_begun B told style_name bytes bytes' old new stop is gives first refused =
      begins_next {A = List ℕ} {B = B} told told (λ t. file_in t STYLE_BYTES style_name) bytes bytes' (λ t. file_begun t style_name)
      (λ t b. then_begun {A = Style} (read_style (style_of b)) (λ _. after t)) old new new (Err stop) refl is gives first
      (begins_refused {A = Style} B told (read_style (style_of bytes')) (λ t _. after t) new stop refused)

  -- the style is read, and then more is begun
  pub style_read_begun : {B : Type 0} (told told' : Option Listing) (style_name bytes bytes' : List ℕ) (style : Style) (old mid new : List Begun)
      (result : Result B Stop)
      → told' ≡ told → bytes' ≡ bytes → Gives {A = List ℕ} told (λ t. file_in t STYLE_BYTES style_name) (Ok bytes)
      → Begins {A = List ℕ} told (λ t. file_begun t style_name) old mid (Ok bytes)
      → Decides {A = Style} (read_style (style_of bytes')) (Ok style) → Begins {A = B} told' after mid new result
      → Begins {A = B} told (λ t. style_begun t style_name (after t)) old new result
  style_read_begun {B = B} told told' style_name bytes bytes' style old mid new result same is gives first read more =
      begins_next {A = List ℕ} {B = B} told told' (λ t. file_in t STYLE_BYTES style_name) bytes bytes' (λ t. file_begun t style_name)
      (λ t b. then_begun {A = Style} (read_style (style_of b)) (λ _. after t)) old mid new result same is gives first
      (begins_after {A = Style} {B = B} told' (read_style (style_of bytes')) style (λ t _. after t) mid new result read more)
