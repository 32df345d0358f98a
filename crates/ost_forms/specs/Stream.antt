-- The content stream of a file: the length of the header with the high byte first, four zero bytes, the header and the content.
use Rattle.std.specs.Prelude.{Bool, true, false, ◌≡◌, ◌≢◌, ◌≤◌, ◌<◌, ◌+◌, ◌^◌, ◌⊎◌, ℕ, List, [], ◌∷◌, ◌++◌, length, take, drop, nat_lt, if◌then◌else◌, Option, Some, None, Result, Ok, Err}
use Rattle.std.specs.Int.{w32, to_be_bytes, from_be_bytes}
use Rattle.gv_core.specs.Container.{container_form}
use Rattle.gv_core.specs.Layout.{text_bytes}
use Rattle.ost_types.specs.Mode.{IsFileMode, IsLinkMode}
use Rattle.ost_types.specs.declared.meta.Meta.{Meta}
use Rattle.ost_forms.specs.declared.body.Body.{Body}
use Rattle.ost_forms.specs.declared.body.Body.TheVariants.{Regular, Symlink}
use Rattle.ost_forms.specs.declared.body.Header.{Header}
use Rattle.ost_forms.specs.declared.object_type.ObjectType.TheVariants as types
use Rattle.ost_forms.specs.declared.fault.ObjFault.{ObjFault}
use Rattle.ost_forms.specs.declared.fault.ObjFault.TheVariants.{NotNormal, BadSumLength, BadName, NotSorted, BadMode, TooLarge, NoMemory}
use Rattle.ost_forms.specs.TypeText.{type_text}
use Rattle.ost_forms.specs.Rows.{◌>>=◌, xattrs_form}
use Rattle.ost_forms.specs.DirMeta.{object_limit}

-- owner, group, mode and device number, each with the high byte first, the target of a link, and extended attributes
abbrev pub header_form : Header → Option (List ℕ)
header_form h =
    text_bytes h.target >>= λ t. xattrs_form h.meta.xattrs >>= λ xs.
    container_form (type_text types.Header) (to_be_bytes w32 h.meta.uid ∷ to_be_bytes w32 h.meta.gid ∷ to_be_bytes w32 h.meta.mode ∷ to_be_bytes w32 h.rdev ∷ t ∷ xs ∷ [])

abbrev pub zeros : List ℕ
zeros = 0 ∷ 0 ∷ 0 ∷ 0 ∷ []

abbrev pub framed : List ℕ → List ℕ → Option (List ℕ)
framed header content = if nat_lt (length header) (2 ^ 32) then Some (to_be_bytes w32 (length header) ++ (zeros ++ (header ++ content))) else None

-- a header and any content
abbrev pub stream_form : List ℕ → Header → Option (List ℕ)
stream_form content h = header_form h >>= λ header. framed header content

-- a regular file has an empty target, and a link has no content
abbrev pub header_of : Meta → Body → Header
header_of m (Regular bytes) = record { meta = m; rdev = 0; target = [] }
header_of m (Symlink target) = record { meta = m; rdev = 0; target = target }

abbrev pub bytes_of : Body → List ℕ
bytes_of (Regular bytes) = bytes
bytes_of (Symlink target) = []

abbrev pub content_form : Meta → Body → Option (List ℕ)
content_form m body = stream_form (bytes_of body) (header_of m body)

-- what a file holds goes with its mode, and no link leads nowhere
abbrev pub FitsMode : ℕ → Body → Type 0
FitsMode mode (Regular bytes) = IsFileMode mode
FitsMode mode (Symlink target) = IsLinkMode mode × (target ≢ [])

-- some file has this header and this content
abbrev pub IsFile : Header → List ℕ → Type 0
IsFile h content = (body : Body) × (h ≡ header_of h.meta body) × (content ≡ bytes_of body) × FitsMode h.meta.mode body

-- the test is true exactly where P holds
abbrev pub Tells : Type 0 → Bool → Type 0
Tells P true = P
Tells P false = P → ⊥

-- ---- what a stream says of its parts

abbrev pub header_size : List ℕ → ℕ
header_size bytes = from_be_bytes w32 (take 4 bytes)

abbrev pub HeaderFits : List ℕ → Type 0
HeaderFits bytes = 8 + header_size bytes ≤ length bytes

abbrev pub header_part : List ℕ → List ℕ
header_part bytes = take (header_size bytes) (drop 8 bytes)

abbrev pub content_part : List ℕ → List ℕ
content_part bytes = drop (header_size bytes) (drop 8 bytes)

-- no part is longer than its limit
abbrev pub IsWithin : ℕ → List ℕ → Type 0
IsWithin limit bytes = HeaderFits bytes → (header_size bytes ≤ object_limit) × (length (content_part bytes) ≤ limit)

-- the numbers of a header have 32 bits
pub record IsHeader (h : Header) : Type 0 where
  pub uid : h.meta.uid < 2 ^ 32
  pub gid : h.meta.gid < 2 ^ 32
  pub mode : h.meta.mode < 2 ^ 32
  pub rdev : h.rdev < 2 ^ 32

-- Each answer of the reader, where content may have so many bytes. No two of the first four hold of one run of bytes.
abbrev pub ReadsContent : {X : Type 0} → (X → Meta) → (X → Body) → ℕ → List ℕ → Result X ObjFault → Type 0
ReadsContent meta body limit bytes (Ok x) = IsWithin limit bytes × (content_form (meta x) (body x) ≡ Some bytes) × FitsMode (meta x).mode (body x) × IsHeader (header_of (meta x) (body x))
ReadsContent meta body limit bytes (Err (TooLarge n)) =
    HeaderFits bytes × (((n ≡ header_size bytes) × (object_limit < n)) ⊎ ((header_size bytes ≤ object_limit) × (n ≡ length (content_part bytes)) × (limit < n)))
ReadsContent meta body limit bytes (Err NotNormal) = IsWithin limit bytes × ((h : Header) (content : List ℕ) → stream_form content h ≡ Some bytes → ⊥)
ReadsContent meta body limit bytes (Err BadMode) = IsWithin limit bytes × ((h : Header) × (content : List ℕ) × IsHeader h × (stream_form content h ≡ Some bytes) × (IsFile h content → ⊥))
ReadsContent meta body limit bytes (Err BadSumLength) = ⊥
ReadsContent meta body limit bytes (Err BadName) = ⊥
ReadsContent meta body limit bytes (Err NotSorted) = ⊥
ReadsContent meta body limit bytes (Err NoMemory) = Unit {0}

-- a file's attributes and what it holds
pub record FileParts : Type 0 where
  pub meta : Meta
  pub body : Body

abbrev pub ReadsFile : ℕ → List ℕ → Result FileParts ObjFault → Type 0
ReadsFile = ReadsContent (λ f. f.meta) (λ f. f.body)

-- Each answer of a reader that only tells whether there is such a file.
abbrev pub TestsContent : {X : Type 0} → ℕ → List ℕ → Result X ObjFault → Type 0
TestsContent limit bytes (Ok x) = (f : FileParts) × ReadsFile limit bytes (Ok f)
TestsContent limit bytes (Err e) = ReadsFile limit bytes (Err e)

-- what a stream holds, whether its header and its content go together or not
abbrev pub Opens : {X : Type 0} → (X → Header) → (X → List ℕ) → ℕ → List ℕ → Result X ObjFault → Type 0
Opens header content limit bytes (Ok x) = IsWithin limit bytes × IsHeader (header x) × (stream_form (content x) (header x) ≡ Some bytes)
Opens header content limit bytes (Err (TooLarge n)) = ReadsFile limit bytes (Err (TooLarge n))
Opens header content limit bytes (Err NotNormal) = ReadsFile limit bytes (Err NotNormal)
Opens header content limit bytes (Err BadMode) = ⊥
Opens header content limit bytes (Err BadSumLength) = ⊥
Opens header content limit bytes (Err BadName) = ⊥
Opens header content limit bytes (Err NotSorted) = ⊥
Opens header content limit bytes (Err NoMemory) = Unit {0}

-- what is made of a header and content
abbrev pub Joins : {X : Type 0} → (X → Meta) → (X → Body) → Header → List ℕ → Result X ObjFault → Type 0
Joins meta body h content (Ok x) = (h ≡ header_of (meta x) (body x)) × (content ≡ bytes_of (body x)) × FitsMode (meta x).mode (body x)
Joins meta body h content (Err BadMode) = IsFile h content → ⊥
Joins meta body h content (Err NoMemory) = Unit {0}
Joins meta body h content (Err NotNormal) = ⊥
Joins meta body h content (Err BadSumLength) = ⊥
Joins meta body h content (Err BadName) = ⊥
Joins meta body h content (Err NotSorted) = ⊥
Joins meta body h content (Err (TooLarge n)) = ⊥
