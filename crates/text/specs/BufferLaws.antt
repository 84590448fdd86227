-- Laws of writing into a lent buffer: two writings one after the other are one, and bytes may be put from the last.
use Rattle.std.specs.Prelude.{ℕ, suc, ◌+◌, ◌≤◌, ◌<◌, ◌≡◌, refl, List, [], ◌∷◌, ◌++◌, ℤ, length, take, drop, set}
use Rattle.std.proofs.Common.{sym, ap, ◌∙◌, append_assoc, add-zero, add-one, arith, length-append, length-take, length-drop, take-append-drop, take_at, drop_at, drop-drop, length-take-le, SFits, to_z, of_z, to_z-of_z}
use Rattle.std.proofs.lemmas.List.{set_split, take-set-le}
use Rattle.std.specs.Int.{w32}
use Rattle.text.specs.Decimal.{figure}
use Rattle.text.specs.Buffer.{put, Wrote}

-- ---- putting text

module _ (at : ℕ) (text out : List ℕ) (room : at + length text ≤ length out) where
  -- The front, with the text, is as long as it should be.
  front_length : length (take at out ++ text) ≡ at + length text
  front_length = simp (length-append, length-take) (omega arith)

  -- Putting text keeps the length.
  put-length : length (put at text out) ≡ length out
  put-length = simp (length-append, length-take, length-drop) (omega arith)

  -- The buffer up to the end of the text, and from there on.
  put-take : take (at + length text) (put at text out) ≡ take at out ++ text
  put-take = rw (← append_assoc) (take_at (take at out ++ text) (drop (at + length text) out) (at + length text) front_length)

  put-drop : drop (at + length text) (put at text out) ≡ drop (at + length text) out
  put-drop = rw (← append_assoc) (drop_at (take at out ++ text) (drop (at + length text) out) (at + length text) front_length)

  -- From a place behind the text on nothing changed.
  put-behind : (k : ℕ) → drop (at + length text + k) (put at text out) ≡ drop (at + length text + k) out
  put-behind k =
      sym (drop-drop k (at + length text) (put at text out)) ∙ ap (drop k) put-drop ∙ drop-drop k (at + length text) out

  -- More text put behind it is one text.
  put-put : (more : List ℕ) → put (at + length text) more (put at text out) ≡ put at (text ++ more) out
  put-put more =
      let e : at + length (text ++ more) ≡ at + length text + length more = omega (arith, length-append text more) in
      rw (put-take, put-behind (length more), e) (simp append_assoc)

-- One byte is a store.
pub put_byte : (at b : ℕ) (out : List ℕ) → at < length out → set out at b ≡ put at (b ∷ []) out
put_byte at b out h = rw add-one (set_split out at b h)

-- From the place of a store on, the byte and then what stood behind it.
store-drop : (at b : ℕ) (out : List ℕ) → at < length out → drop at (set out at b) ≡ b ∷ drop (suc at) out
store-drop at b out h =
    rw (set_split out at b h) (drop_at (take at out) (b ∷ drop (suc at) out) at (length-take-le at out (omega arith)))

-- The last byte of a text may be put before the rest of it.
pub put_last : (at : ℕ) (text : List ℕ) (b : ℕ) (out : List ℕ) → at + length text < length out
    → put at text (set out (at + length text) b) ≡ put at (text ++ (b ∷ [])) out
put_last at text b out h =
    let front : take at (set out (at + length text) b) ≡ take at out = take-set-le at out (at + length text) b (omega arith) in
    let end : at + length (text ++ (b ∷ [])) ≡ suc (at + length text) = omega (arith, length-append text (b ∷ [])) in
    rw (front, store-drop (at + length text) b out h, end) (simp append_assoc)

-- ---- what was written

-- Text put where there is room was written.
pub wrote : {entry : List ℕ} {at : ℕ} {text exit : List ℕ} {next : ℕ} → exit ≡ put at text entry
    → next ≡ at + length text → next ≤ length entry → Wrote entry at text exit next
wrote {entry} {at} {text} e n room =
    record { bytes = e; behind = n; room = room; kept = ap length e ∙ put-length at text entry (omega arith) }

-- No text yet.
pub wrote_none : {entry : List ℕ} {at : ℕ} → at ≤ length entry → Wrote entry at [] entry at
wrote_none {entry} {at} h = wrote (rw add-zero (sym (take-append-drop at entry))) (omega arith) h

-- One byte.
pub wrote-byte : {entry : List ℕ} {at : ℕ} (b : ℕ) → at + 1 ≤ length entry
    → Wrote entry at (b ∷ []) (set entry at b) (at + 1)
wrote-byte {entry} {at} b h = wrote (put_byte at b entry (omega arith)) refl h

-- Text, and then more text behind it, is one text.
pub wrote-more : {entry : List ℕ} {at : ℕ} {text middle : List ℕ} {place : ℕ} {more exit : List ℕ} {next : ℕ}
    → Wrote entry at text middle place → Wrote middle place more exit next → Wrote entry at (text ++ more) exit next
wrote-more {entry} {at} {text} {middle} {place} {more} {exit} {next} a b = record {
  bytes =
      b.bytes
      ∙ ap (λ (p : ℕ). put p more middle) a.behind
      ∙ ap (put (at + length text) more) a.bytes
      ∙ put-put at text entry (omega arith) more;
  behind = omega (arith, length-append text more);
  room = omega arith;
  kept = omega arith;
}

-- One byte more.
pub wrote-next : {entry : List ℕ} {at : ℕ} {text out : List ℕ} {place : ℕ} (b : ℕ) → Wrote entry at text out place
    → place + 1 ≤ length entry → Wrote entry at (text ++ (b ∷ [])) (set out place b) (place + 1)
wrote-next b w h = wrote-more w (wrote-byte b (omega (arith, w.kept)))

-- A caller hears of a signed number through its bits: here of the number itself.
pub wrote-number : {entry : List ℕ} {at : ℕ} {z : ℤ} {exit : List ℕ} {next : ℕ} → SFits w32 z
    → Wrote entry at (figure (to_z w32 (of_z w32 z))) exit next → Wrote entry at (figure z) exit next
wrote-number f w = rw (to_z-of_z f) at w
