-- Lists that stand in pieces: what is read in them, and which are the same.
use Rattle.std.proofs.Common.{◌≡◌, ◌∙◌, Bool, true, false, ◌+◌, ◌-◌, ◌*◌, ◌/◌, ◌%◌, ◌≤◌, ◌<◌, ℕ, zero, suc, List, [], ◌∷◌, ◌++◌, length, take, drop, get_or, map, ap, ap₂, sym, subst, refl, arith, take_at, drop_at, append_assoc, length-append, take-append-drop}
use Rattle.std.specs.Prelude.{IsTrue, ◌↔◌}
use Rattle.std.specs.List.{AllZip, flat_map, list_any, slice_range}
use Rattle.std.proofs.lemmas.Grind.{flat_map-append}
use Rattle.std.proofs.lemmas.List.{get_or_append_left, get_or-append-add, get_or-append_right, flat_map_more, take_more_same, take_all, length-map, length-take, length-drop}
use Rattle.std.proofs.lemmas.Nat.{div-add-mod', div_below, mod_below}
use Rattle.fz_tree.specs.Frontier.{Edge, edge_has_rest}
use Rattle.fz_region.specs.Pieces.{joined, AreWhole, AreSettledTo, ArePieces}
use Rattle.fz_region.specs.declared.pieces.TheConstants.{PIECE, PIECES_MOST}
use Rattle.fz_region.proofs.Settled.{settled_all, settled_above, settled_below}

take_on : (es : List Edge) (i j : ℕ) → i ≤ j → take i es ++ slice_range es i j ≡ take j es
take_on es zero j h = ap (λ (n : ℕ). take n es) (let size : j - 0 ≡ j = omega arith in size)
take_on [] (suc i) j h = take_all (j - suc i) [] (omega arith) ∙ sym (take_all j [] (omega arith))
take_on (e ∷ es) (suc i) zero h = absurd (omega (arith, h))
take_on (e ∷ es) (suc i) (suc j) h =
    let size : suc j - suc i ≡ j - i = omega arith in
    ap (λ (l : List Edge). e ∷ l) (ap (λ (n : ℕ). take i es ++ take n (drop i es)) size ∙ take_on es i j (omega (arith, h)))

pub piece_length : (es : List Edge) (i : ℕ) → (i + 1) * PIECE ≤ length es → length (slice_range es (i * PIECE) ((i + 1) * PIECE)) ≡ PIECE
piece_length es i h = omega (arith, h, length-take ((i + 1) * PIECE - i * PIECE) (drop (i * PIECE) es), length-drop (i * PIECE) es)

pub piece_below : (n i : ℕ) → i < n * PIECE → i / PIECE < n
piece_below n i h = div_below i PIECE n (omega arith) h

pub place_within : (i : ℕ) → i % PIECE < PIECE
place_within i = mod_below i PIECE (omega arith)

module _ {X : Type 0} (items : X → List Edge) where
  abbrev Whole : List X → Type 0
  Whole ps = AreWhole items ps

  pub all_length : (ps : List X) → Whole ps → length (flat_map items ps) ≡ length ps * PIECE
  all_length [] w = omega arith
  all_length (p ∷ ps) w = omega (arith, length-append (items p) (flat_map items ps), w.0, all_length ps w.1)

  pub joined_length : (ps : List X) (tail : List Edge) → Whole ps → length (joined items ps tail) ≡ length ps * PIECE + length tail
  joined_length ps tail w = omega (arith, length-append (flat_map items ps) tail, all_length ps w)

  -- ---- at a place of a piece

  in_piece : (ps : List X) (tail : List Edge) (q r : ℕ) (d : Edge) (p : X) → Whole ps → q < length ps → r < PIECE
      → get_or (flat_map items ps ++ tail) (q * PIECE + r) d ≡ get_or (items (get_or ps q p)) r d
  in_piece [] tail q r d p w h l = absurd (omega (arith, h))
  in_piece (x ∷ ps) tail zero r d p w h l =
      let e : zero * PIECE + r ≡ r = omega arith in
      let here : r < length (items x) = omega (arith, l, w.0) in
      ap (λ (n : ℕ). get_or ((items x ++ flat_map items ps) ++ tail) n d) e
      ∙ ap (λ (zs : List Edge). get_or zs r d) (append_assoc (items x) (flat_map items ps) tail)
      ∙ get_or_append_left (items x) (flat_map items ps ++ tail) d r here
  in_piece (x ∷ ps) tail (suc q) r d p w h l =
      let e : suc q * PIECE + r ≡ length (items x) + (q * PIECE + r) = omega (arith, w.0) in
      ap (λ (n : ℕ). get_or ((items x ++ flat_map items ps) ++ tail) n d) e
      ∙ ap (λ (zs : List Edge). get_or zs (length (items x) + (q * PIECE + r)) d) (append_assoc (items x) (flat_map items ps) tail)
      ∙ get_or-append-add (items x) (flat_map items ps ++ tail) (q * PIECE + r) d
      ∙ in_piece ps tail q r d p w.1 (omega (arith, h)) l

  -- ---- pieces that stay whole

  pub whole_pushed : (ps : List X) (z : X) → Whole ps → length (items z) ≡ PIECE → Whole (ps ++ z ∷ [])
  whole_pushed [] z w h = (h, tt)
  whole_pushed (p ∷ ps) z w h = (w.0, whole_pushed ps z w.1 h)

  pub whole_both : (ps qs : List X) → Whole ps → Whole qs → Whole (ps ++ qs)
  whole_both [] qs w v = v
  whole_both (p ∷ ps) qs w v = (w.0, whole_both ps qs w.1 v)

  pub whole_at : (ps : List X) (q : ℕ) (p : X) → Whole ps → q < length ps → length (items (get_or ps q p)) ≡ PIECE
  whole_at [] q p w h = absurd (omega (arith, h))
  whole_at (x ∷ ps) zero p w h = w.0
  whole_at (x ∷ ps) (suc q) p w h = whole_at ps q p w.1 (omega (arith, h))

  pub whole_copied : (ps zs : List X) → AllZip (λ p z. items z ≡ items p) ps zs → Whole ps → Whole zs
  whole_copied [] [] same w = tt
  whole_copied [] (z ∷ zs) same w = absurd same
  whole_copied (p ∷ ps) [] same w = absurd same
  whole_copied (p ∷ ps) (z ∷ zs) same w = (ap length same.0 ∙ w.0, whole_copied ps zs same.1 w.1)

  pub all_copied : (ps zs : List X) → AllZip (λ p z. items z ≡ items p) ps zs → flat_map items zs ≡ flat_map items ps
  all_copied [] [] same = refl
  all_copied [] (z ∷ zs) same = absurd same
  all_copied (p ∷ ps) [] same = absurd same
  all_copied (p ∷ ps) (z ∷ zs) same =
      ap (λ (l : List Edge). l ++ flat_map items zs) same.0 ∙ ap (λ (l : List Edge). items p ++ l) (all_copied ps zs same.1)

  pub length_copied : (ps zs : List X) → AllZip (λ p z. items z ≡ items p) ps zs → length zs ≡ length ps
  length_copied [] [] same = refl
  length_copied [] (z ∷ zs) same = absurd same
  length_copied (p ∷ ps) [] same = absurd same
  length_copied (p ∷ ps) (z ∷ zs) same = ap suc (length_copied ps zs same.1)

  -- of what a slice of the pieces is copied to
  pub copied_from : (ps qs zs : List X) → qs ≡ ps → AllZip (λ p z. items z ≡ items p) qs zs → AllZip (λ p z. items z ≡ items p) ps zs
  copied_from ps qs zs is same = subst (λ (l : List X). AllZip (λ p z. items z ≡ items p) l zs) is same

  pub other_tail : (ps : List X) (tail new : List Edge) (n : ℕ) → ArePieces items ps tail n → AreSettledTo n new → ArePieces items ps new n
  other_tail ps tail new n old front = record { whole = old.whole; few = old.few; settled = old.settled; front = front }

  -- copies of the pieces, and another tail
  pub copied_pieces : (ps zs : List X) (tail new : List Edge) (n k : ℕ) → AllZip (λ p z. items z ≡ items p) ps zs → ArePieces items ps tail n → AreSettledTo k new → ArePieces items zs new k
  copied_pieces ps zs tail new n k same old front = record {
    whole = whole_copied ps zs same old.whole;
    few = omega (arith, length_copied ps zs same, old.few);
    settled = ap (list_any edge_has_rest) (all_copied ps zs same) ∙ old.settled;
    front = front;
  }

  -- ---- two lists in as many pieces

  pub mapped : (ps : List X) (i : ℕ) (x : X) (d : List Edge) → i < length ps → x ≡ get_or ps i x → get_or (map items ps) i d ≡ items x
  mapped [] i x d h is = absurd (omega (arith, h))
  mapped (p ∷ ps) zero x d h is = ap items (sym is)
  mapped (p ∷ ps) (suc i) x d h is = mapped ps i x d (omega (arith, h)) is

  pub mapped_more : (ps qs : List X) (i : ℕ) (x y : X) → i < length ps → i < length qs → x ≡ get_or ps i x → y ≡ get_or qs i y → items x ≡ items y
      → take i (map items ps) ≡ take i (map items qs) → take (i + 1) (map items ps) ≡ take (i + 1) (map items qs)
  mapped_more ps qs i x y h k is_x is_y same before =
      take_more_same (map items ps) (map items qs) i [] (omega (arith, h, length-map ps items)) (omega (arith, k, length-map qs items)) before
      (mapped ps i x [] h is_x ∙ same ∙ sym (mapped qs i y [] k is_y))

  pub mapped_apart : (ps qs : List X) (i : ℕ) (x y : X) → i < length ps → i < length qs → x ≡ get_or ps i x → y ≡ get_or qs i y → map items ps ≡ map items qs → items x ≡ items y
  mapped_apart ps qs i x y h k is_x is_y same =
      sym (mapped ps i x [] h is_x) ∙ ap (λ (l : List (List Edge)). get_or l i []) same ∙ mapped qs i y [] k is_y

  pub same_front : (ps qs : List X) → map items ps ≡ map items qs → flat_map items ps ≡ flat_map items qs
  same_front [] [] same = refl
  same_front [] (q ∷ qs) same = absurd (let bad : 0 ≡ suc (length (map items qs)) = ap length same in omega (arith, bad))
  same_front (p ∷ ps) [] same = absurd (let bad : suc (length (map items ps)) ≡ 0 = ap length same in omega (arith, bad))
  same_front (p ∷ ps) (q ∷ qs) same =
      let first : items p ≡ items q = ap (λ (l : List (List Edge)). get_or l 0 []) same in
      let rest : map items ps ≡ map items qs = ap (drop 1) same in
      ap₂ (λ (l m : List Edge). l ++ m) first (same_front ps qs rest)

  pub same_joined : (ps qs : List X) (es fs : List Edge) → map items ps ≡ map items qs → es ≡ fs → joined items ps es ≡ joined items qs fs
  same_joined ps qs es fs front tail = ap₂ (λ (l m : List Edge). l ++ m) (same_front ps qs front) tail

  first_same : (es fs gs hs : List Edge) → length es ≡ length fs → es ++ gs ≡ fs ++ hs → (es ≡ fs) × (gs ≡ hs)
  first_same es fs gs hs size same = (
    sym (take_at es gs (length fs) size) ∙ ap (take (length fs)) same ∙ take_at fs hs (length fs) refl,
    sym (drop_at es gs (length fs) size) ∙ ap (drop (length fs)) same ∙ drop_at fs hs (length fs) refl,
  )

  pub parts_same : (ps qs : List X) (es fs : List Edge) → Whole ps → Whole qs → length ps ≡ length qs → joined items ps es ≡ joined items qs fs → (map items ps ≡ map items qs) × (es ≡ fs)
  parts_same [] [] es fs w v size same = (refl, same)
  parts_same [] (q ∷ qs) es fs w v size same = absurd (omega (arith, size))
  parts_same (p ∷ ps) [] es fs w v size same = absurd (omega (arith, size))
  parts_same (p ∷ ps) (q ∷ qs) es fs w v size same =
      let both = first_same (items p) (items q) (flat_map items ps ++ es) (flat_map items qs ++ fs) (w.0 ∙ sym v.0)
      (sym (append_assoc (items p) (flat_map items ps) es) ∙ same ∙ append_assoc (items q) (flat_map items qs) fs) in
      let rest = parts_same ps qs es fs w.1 v.1 (omega (arith, size)) both.1 in
      (ap₂ (λ (l : List Edge) (ls : List (List Edge)). l ∷ ls) both.0 rest.0, rest.1)

  -- as the code compares them: the tails are the same, or they aren't
  pub same_behind : (ps qs ms ns : List X) (es fs ts us these those : List Edge) (b : Bool) → Whole ps → Whole qs → length ps ≡ length qs → joined items ps es ≡ these → joined items qs fs ≡ those
      → ts ≡ es → us ≡ fs → ts ≡ us → ms ≡ ps → ns ≡ qs → (IsTrue b ↔ (map items ms ≡ map items ns)) → (IsTrue b ↔ (these ≡ those))
  same_behind ps qs ms ns es fs ts us these those b w v size is_these is_those is_ts is_us tails is_ms is_ns pieces = (
    λ h. sym is_these ∙ same_joined ps qs es fs (ap (map items) (sym is_ms) ∙ pieces.0 h ∙ ap (map items) is_ns) (sym is_ts ∙ tails ∙ is_us) ∙ is_those,
    λ is. pieces.1 (ap (map items) is_ms ∙ (parts_same ps qs es fs w v size (is_these ∙ is ∙ sym is_those)).0 ∙ ap (map items) (sym is_ns)),
  )

  pub apart_behind : (ps qs : List X) (es fs ts us these those : List Edge) (b : Bool) → Whole ps → Whole qs → length ps ≡ length qs → joined items ps es ≡ these → joined items qs fs ≡ those
      → ts ≡ es → us ≡ fs → b ≡ false → (IsTrue b ↔ (ts ≡ us)) → (IsTrue b ↔ (these ≡ those))
  apart_behind ps qs es fs ts us these those b w v size is_these is_those is_ts is_us unlike tails = (
    λ h. absurd (let bad : false ≡ true = sym unlike ∙ h in cc),
    λ is. tails.1 (is_ts ∙ (parts_same ps qs es fs w v size (is_these ∙ is ∙ sym is_those)).1 ∙ sym is_us),
  )

  -- ---- as the code divides a place

  pub read_in_piece : (ps : List X) (tail : List Edge) (i : ℕ) (p : X) (e : Edge) → Whole ps → i < length ps * PIECE → p ≡ get_or ps (i / PIECE) p → e ≡ get_or (items p) (i % PIECE) e → e ≡ get_or (joined items ps tail) i e
  read_in_piece ps tail i p e w h piece is =
      is ∙ ap (λ (x : X). get_or (items x) (i % PIECE) e) piece
      ∙ sym (in_piece ps tail (i / PIECE) (i % PIECE) e p w (piece_below (length ps) i h) (place_within i))
      ∙ ap (λ (n : ℕ). get_or (joined items ps tail) n e) (div-add-mod' i PIECE)

  pub read_in_tail : (ps : List X) (tail : List Edge) (n i : ℕ) (e : Edge) → Whole ps → n ≡ length ps * PIECE → n ≤ i → e ≡ get_or tail (i - n) e → e ≡ get_or (joined items ps tail) i e
  read_in_tail ps tail n i e w size h is = is ∙ sym (get_or-append_right (flat_map items ps) tail n i e (all_length ps w ∙ sym size) h)

  -- the first edges of a tail have become pieces
  pub shared : (ps more : List X) (tail : List Edge) (n : ℕ) → flat_map items more ≡ take n tail → joined items (ps ++ more) (drop n tail) ≡ joined items ps tail
  shared ps more tail n is =
      ap (λ (l : List Edge). l ++ drop n tail) (flat_map-append items ps more)
      ∙ append_assoc (flat_map items ps) (flat_map items more) (drop n tail)
      ∙ ap (λ (l : List Edge). flat_map items ps ++ l) (ap (λ (l : List Edge). l ++ drop n tail) is ∙ take-append-drop n tail)

  -- the pieces and the tail after them, as they stand then
  pub shared_pieces : (ps more : List X) (tail : List Edge) (n : ℕ) → ArePieces items ps tail n → flat_map items more ≡ take (n / PIECE * PIECE) tail → Whole more → length ps + n / PIECE ≤ PIECES_MOST
      → ArePieces items (ps ++ more) (drop (n / PIECE * PIECE) tail) (n % PIECE)
  shared_pieces ps more tail n old is w few =
      let split : n / PIECE * PIECE + n % PIECE ≡ n = div-add-mod' n PIECE in
      let front : AreSettledTo (n / PIECE * PIECE + n % PIECE) tail = subst (λ (m : ℕ). AreSettledTo m tail) (sym split) old.front in
      record {
        whole = whole_both ps more old.whole w;
        few = omega (arith, length-append ps more, few, all_length more w, ap length is, length-take (n / PIECE * PIECE) tail);
        settled = ap (list_any edge_has_rest) (flat_map-append items ps more) ∙ settled_all (flat_map items ps) (flat_map items more) old.settled (ap (list_any edge_has_rest) is ∙ settled_above (n / PIECE * PIECE) (n % PIECE) tail front);
        front = settled_below (n / PIECE * PIECE) (n % PIECE) tail front;
      }

  pub shared_code : (ps more new : List X) (tail below : List Edge) (n : ℕ) → ArePieces items ps tail n → flat_map items more ≡ take (n / PIECE * PIECE) tail → Whole more → length ps + n / PIECE ≤ PIECES_MOST
      → new ≡ ps ++ more → below ≡ drop (n / PIECE * PIECE) tail → ArePieces items new below (n % PIECE)
  shared_code ps more new tail below n old is w few is_new is_below =
      subst (λ (l : List X). ArePieces items l below (n % PIECE)) (sym is_new)
      (subst (λ (l : List Edge). ArePieces items (ps ++ more) l (n % PIECE)) (sym is_below) (shared_pieces ps more tail n old is w few))

  -- one piece more has been made
  pub piece_made : (edges : List Edge) (made : List X) (p : X) (i : ℕ) → flat_map items made ≡ take (i * PIECE) edges → items p ≡ slice_range edges (i * PIECE) ((i + 1) * PIECE)
      → flat_map items (made ++ p ∷ []) ≡ take ((i + 1) * PIECE) edges
  piece_made edges made p i before is =
      sym (flat_map_more items [] made p) ∙ ap₂ (λ (l m : List Edge). l ++ m) before is ∙ take_on edges (i * PIECE) ((i + 1) * PIECE) (omega arith)
