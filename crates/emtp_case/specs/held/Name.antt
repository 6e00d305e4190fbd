-- The bytes of a name. `name_of-bytes_of` is a proof that stands here because the model of `Name` cites it.
use Rattle.std.specs.Prelude.{◌≡◌, ◌≢◌, ℕ, ◌-◌, ◌≤◌, All, List, slice_index_or, ◌++◌, length, take, drop, replicate}
use Rattle.std.proofs.Common.{sym, ◌∙◌, ap, arith, length-take-le, take-append-drop}
use Rattle.emtp_case.specs.declared.name.Name.TheInside.{Inside}

-- a byte that a card can give to a name: printable, and no comma
abbrev pub IsNameByte : ℕ → Type 0
IsNameByte b = (32 ≤ b) × (b ≤ 126) × (b ≢ 44)

-- what a card can name: 1 to 6 such bytes, with no blank at either end
pub record IsName (name : List ℕ) : Type 0 where
  pub some : 1 ≤ length name
  pub short : length name ≤ 6
  pub bytes : All IsNameByte name
  pub first : slice_index_or name 0 32 ≢ 32
  pub last : slice_index_or name (length name - 1) 32 ≢ 32

-- the bytes of a name
abbrev pub bytes_of : Inside → List ℕ
bytes_of a = take a.len a.bytes

-- what the record keeps: at most six bytes, and zeros behind them
pub record IsPadded (a : Inside) : Type 0 where
  pub whole : length a.bytes ≡ 6
  pub short : a.len ≤ 6
  pub padded : drop a.len a.bytes ≡ replicate (6 - a.len) 0

-- the record of the bytes
abbrev pub name_of : List ℕ → Inside
name_of text = record { bytes = text ++ replicate (6 - length text) 0; len = length text }

-- the bytes give the record back
pub name_of-bytes_of : (a : Inside) → IsPadded a → name_of (bytes_of a) ≡ a
name_of-bytes_of a h =
    let short : a.len ≤ length a.bytes = omega (arith, h.whole, h.short) in
    let len : length (take a.len a.bytes) ≡ a.len = length-take-le a.len a.bytes short in
    let cells : take a.len a.bytes ++ replicate (6 - a.len) 0 ≡ a.bytes =
    ap (λ t. take a.len a.bytes ++ t) (sym h.padded) ∙ take-append-drop a.len a.bytes in
    let made : ℕ → List ℕ → Inside = λ n xs. record { bytes = xs; len = n } in
    ap (λ n. made n (take a.len a.bytes ++ replicate (6 - n) 0)) len ∙ ap (made a.len) cells
