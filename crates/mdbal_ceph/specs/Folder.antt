-- What files hold, by their names.
use Rattle.std.specs.Prelude.{ℕ, List, Option, Some, None, Vec}
use Rattle.std.specs.Global.{Global}

-- what a read of a name gives: the bytes of its file, that there is none, or that the device failed
pub data FileContent : Type 0 where
  Bytes : List ℕ → FileContent
  Missing : FileContent
  Failed : FileContent

abbrev pub content_of : Option (Vec ℕ Global) → FileContent
content_of None = Missing
content_of (Some bytes) = Bytes bytes.items

-- there is a file of this name, and its bytes say this
abbrev pub IsInFile : {A : Type 0} → (List ℕ → FileContent → Type 0) → (List ℕ → A → Type 0) → List ℕ → A → Type 0
IsInFile reads Says name value = (bytes : List ℕ) × reads name (Bytes bytes) × Says bytes value

-- the same where there is such a file
abbrev pub IsInFileIfAny : {A : Type 0} → (List ℕ → FileContent → Type 0) → (List ℕ → A → Type 0) → List ℕ
    → Option A → Type 0
IsInFileIfAny reads Says name None = reads name Missing
IsInFileIfAny reads Says name (Some value) = IsInFile reads Says name value
