-- Where the file of a name stands.
use Rattle.std.proofs.Common.{◌≡◌, ℕ, suc, ◌+◌, ◌-◌, ◌<◌, ◌≤◌, List, [], ◌∷◌, ◌++◌, length, take, drop, min}
use Rattle.std.proofs.Common.{slice_range, length-drop, length-append, Bool, true, false, bytes_eq, Some, None}
use Rattle.std.proofs.Common.{slice_index_or, slice_set, refl, sym, ap, subst, ◌∙◌, arith}
use Rattle.std.proofs.lemmas.List.{drop-drop, drop_all, length-take-le, take-append-drop, take-append-le}
use Rattle.std.proofs.Math.Seq.{take-append_seam}
use Rattle.std.specs.List.{prefix_len}
use Rattle.std.specs.Prelude.{Result, Ok, Err, IfOk}
use Rattle.teco_model.specs.Files.{File, file_named, with_file}
use Rattle.teco_hosts.specs.HostCalls.{ReadsSome}
use Rattle.teco_hosts.specs.HostFiles.{Telling, Reads}
use Rattle.teco_hosts.specs.MemFiles.{is_other}

one : (n : ℕ) → 1 + n ≡ suc n
one n = omega arith

-- what stands at the place is what is found
record Standing (name : List ℕ) (files : List File) : Type 0 where
  some : (d : File) → prefix_len (is_other name) files < length files
      → Some (slice_index_or files (prefix_len (is_other name) files) d).bytes ≡ file_named name files
  none : length files ≤ prefix_len (is_other name) files → None ≡ file_named name files

standing-cons : (name : List ℕ) (g : File) (files : List File) (t : Bool) → bytes_eq g.name name ≡ t
    → Standing name files → Standing name (g ∷ files)
standing-cons name g files true e s = record {
  some = λ d h. rw e refl;
  none = λ h. let k = rw e at h in absurd (omega arith);
}
standing-cons name g files false e s = record {
  some = λ d h. let k = rw e at h in rw (e, one (prefix_len (is_other name) files)) (s.some d (omega arith));
  none = λ h. let k = rw e at h in rw e (s.none (omega arith));
}

standing : (name : List ℕ) (files : List File) → Standing name files
standing name [] = record { some = λ d h. absurd (omega arith); none = λ h. refl }
standing name (g ∷ files) = standing-cons name g files (bytes_eq g.name name) refl (standing name files)

pub found : (name : List ℕ) (files : List File) (k : ℕ) (d : File) → k ≡ prefix_len (is_other name) files
    → k < length files → Some (slice_index_or files k d).bytes ≡ file_named name files
found name files k d e h =
    ap (λ i. Some (slice_index_or files i d).bytes) e ∙ (standing name files).some d (subst (λ i. i < length files) e h)

pub missing : (name : List ℕ) (files : List File) (k : ℕ) → k ≡ prefix_len (is_other name) files → length files ≤ k
    → None ≡ file_named name files
missing name files k e h = (standing name files).none (subst (λ i. length files ≤ i) e h)

-- a file goes where the one of its name stands, or behind the others
record Going (f : File) (files : List File) : Type 0 where
  over : prefix_len (is_other f.name) files < length files
      → slice_set files (prefix_len (is_other f.name) files) f ≡ with_file f.name f.bytes files
  behind : length files ≤ prefix_len (is_other f.name) files → files ++ f ∷ [] ≡ with_file f.name f.bytes files

going-cons : (f g : File) (files : List File) (t : Bool) → bytes_eq g.name f.name ≡ t → Going f files
    → Going f (g ∷ files)
going-cons f g files true e s = record {
  over = λ h. rw e refl;
  behind = λ h. let k = rw e at h in absurd (omega arith);
}
going-cons f g files false e s = record {
  over = λ h. let k = rw e at h in
      rw (e, one (prefix_len (is_other f.name) files)) (ap (λ l. g ∷ l) (s.over (omega arith)));
  behind = λ h. let k = rw e at h in rw e (ap (λ l. g ∷ l) (s.behind (omega arith)));
}

going : (f : File) (files : List File) → Going f files
going f [] = record { over = λ h. absurd (omega arith); behind = λ h. refl }
going f (g ∷ files) = going-cons f g files (bytes_eq g.name f.name) refl (going f files)

-- by what the call that finds the place was given
pub put-over : (f : File) (files given : List File) (k : ℕ) (name : List ℕ) → k ≡ prefix_len (is_other name) given
    → given ≡ files → name ≡ f.name → k < length files → slice_set files k f ≡ with_file f.name f.bytes files
put-over f files given k name e p q h =
    let at : k ≡ prefix_len (is_other f.name) files = e ∙ ap (λ l. prefix_len (is_other name) l) p
    ∙ ap (λ n. prefix_len (is_other n) files) q in
    ap (λ i. slice_set files i f) at ∙ (going f files).over (subst (λ i. i < length files) at h)

pub put-behind : (f : File) (files given : List File) (k : ℕ) (name : List ℕ) → k ≡ prefix_len (is_other name) given
    → given ≡ files → name ≡ f.name → length files ≤ k → files ++ f ∷ [] ≡ with_file f.name f.bytes files
put-behind f files given k name e p q h =
    let at : k ≡ prefix_len (is_other f.name) files = e ∙ ap (λ l. prefix_len (is_other name) l) p
    ∙ ap (λ n. prefix_len (is_other n) files) q in
    (going f files).behind (subst (λ i. length files ≤ i) at h)

-- what is read of an input is what was next
read-next : (input buf src : List ℕ) (place n : ℕ) → src ≡ take n (drop place input) → place + n ≤ length input
    → drop place input ≡ take n (src ++ drop n buf) ++ drop (place + n) input
read-next input buf src place n e h =
    let len : n ≡ length src =
    sym (ap length e ∙ length-take-le n (drop place input) (omega (arith, length-drop place input))) in
    let taken : take n (src ++ drop n buf) ≡ src = ap (λ i. take i (src ++ drop n buf)) len
    ∙ take-append_seam src (drop n buf) in
    sym (ap (λ l. l ++ drop (place + n) input) (taken ∙ e) ∙ ap (λ l. take n (drop place input) ++ l)
    (sym (drop-drop n place input)) ∙ take-append-drop n (drop place input))

-- by what the copy was given
pub read-part : (input given buf src : List ℕ) (place n : ℕ) → src ≡ slice_range given place (place + n) → given ≡ input
    → place + n ≤ length input → drop place input ≡ take n (src ++ drop n buf) ++ drop (place + n) input
read-part input given buf src place n e p h =
    let k : place + n - place ≡ n = omega arith in
    read-next input buf src place n (e ∙ ap (λ l. slice_range l place (place + n)) p
    ∙ ap (λ i. take i (drop place input)) k) h

-- where nothing was read into a buffer that has room, nothing was left
pub read-end : (input buf src : List ℕ) (place n given left : ℕ) → length src ≡ length (take n buf)
    → n ≡ min (length buf) given → (given ≡ 0 → left ≡ 0) → left ≡ length input - place → n ≡ 0
    → 0 < length (src ++ drop n buf) → drop (place + n) input ≡ []
read-end input buf src place n given left e m g l z b =
    let none : length src ≡ 0 = e ∙ ap (λ k. length (take k buf)) z in
    let room : 0 < length buf = omega (arith, b, none, length-append src (drop n buf), length-drop n buf) in
    let no : given ≡ 0 = omega (arith, m, z, room) in
    let end : left ≡ 0 = g no in
    drop_all (place + n) input (omega (arith, end, l))

-- bytes that were read, before more room
pub reads-more : {E : Type 0} (buf rest : List ℕ) (r : Result ℕ E) (x y : Telling)
    → (0 < length (buf ++ rest) → 0 < length buf) → IfOk r (λ n. n ≤ length buf) → ReadsSome buf r x y
    → ReadsSome (buf ++ rest) r x y
reads-more buf rest (Ok n) x y some within h = (
  subst (λ b. Reads b x y) (sym (take-append-le n buf rest within)) h.0,
  λ none room. h.1 none (some room),
)
reads-more buf rest (Err e) x y some within h = h
