-- What names stand for where a file is put among others.
use Rattle.teco_hosts.proofs.Prelude.{◌≡◌, ℕ, List, [], ◌∷◌, Bool, true, false, cond, Some, refl, sym, ap}
use Rattle.teco_hosts.proofs.Prelude.{subst, ◌∙◌, bytes_eq, ◌≢◌, File, file_named, with_file}
use Rattle.std.proofs.lemmas.Slice.Eq.{bytes_eq-Decides}

pub other : (a b : List ℕ) → a ≢ b → bytes_eq a b ≡ false
other a b n = by (bytes_eq a b) refl where
  by : (t : Bool) → bytes_eq a b ≡ t → bytes_eq a b ≡ false
  by true e = absurd (n ((bytes_eq-Decides a b).0 e))
  by false e = e

-- a file of another name in front
pub named-before : (file : File) (name : List ℕ) (named : List File) → file.name ≢ name
    → file_named name (file ∷ named) ≡ file_named name named
named-before file name named n = rw (other file.name name n) refl

pub named-first : (name bytes : List ℕ) (named : List File)
    → file_named name (record { name = name; bytes = bytes } ∷ named) ≡ Some bytes
named-first name bytes named = rw ((bytes_eq-Decides name name).1 refl) refl

-- a file that is put keeps those of other names
put-before : (name bytes wanted : List ℕ) (file : File) (files : List File) → name ≢ wanted
    → file_named wanted (with_file name bytes files) ≡ file_named wanted files
    → file_named wanted (with_file name bytes (file ∷ files)) ≡ file_named wanted (file ∷ files)
put-before name bytes wanted file files n rest = by (bytes_eq file.name name) refl where
  by : (t : Bool) → bytes_eq file.name name ≡ t
      → file_named wanted (with_file name bytes (file ∷ files)) ≡ file_named wanted (file ∷ files)
  by true e =
      let same : file.name ≡ name = (bytes_eq-Decides file.name name).0 e in
      let away : file.name ≢ wanted = subst (λ k. k ≢ wanted) (sym same) n in
      rw e (named-before (record { name = name; bytes = bytes }) wanted files n
      ∙ sym (named-before file wanted files away))
  by false e = rw e (ap (λ o. cond (bytes_eq file.name wanted) (Some file.bytes) o) rest)

pub named-put : (name bytes wanted : List ℕ) (named : List File) → name ≢ wanted
    → file_named wanted (with_file name bytes named) ≡ file_named wanted named
named-put name bytes wanted [] n = named-before (record { name = name; bytes = bytes }) wanted [] n
named-put name bytes wanted (file ∷ files) n =
    put-before name bytes wanted file files n (named-put name bytes wanted files n)

-- it has its name
here : (name bytes : List ℕ) (file : File) (files : List File)
    → file_named name (with_file name bytes files) ≡ Some bytes
    → file_named name (with_file name bytes (file ∷ files)) ≡ Some bytes
here name bytes file files rest = by (bytes_eq file.name name) refl where
  by : (t : Bool) → bytes_eq file.name name ≡ t → file_named name (with_file name bytes (file ∷ files)) ≡ Some bytes
  by true e = rw e (named-first name bytes files)
  by false e = rw (e, e) rest

pub named-here : (name bytes : List ℕ) (named : List File) → file_named name (with_file name bytes named) ≡ Some bytes
named-here name bytes [] = named-first name bytes []
named-here name bytes (file ∷ files) = here name bytes file files (named-here name bytes files)
