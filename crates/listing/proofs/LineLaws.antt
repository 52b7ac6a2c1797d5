-- Laws of the printed text: that of each line as a form with its figures, that of a run of lines with one more at its end, and how long a
-- line can be, where a figure has at most 20 digits and a name at most 32 bytes. Assumes nothing.
use Prim.Native.Nat.{ℕ, suc, ◌+◌, ◌≤◌, ◌<◌}
use mathlib.Core.Path.{◌≡◌, refl, ap, ◌∙◌}
use mathlib.Core.List.{List, [], ◌∷◌, ◌++◌, append_assoc}
use native.Mathlib.Omega.{arith}
use lib.ListN.{length, get_or, take, length-append, length-take}
use lib.Seq.{length-take-le}
use Rattle.units.specs.Refusals.{number_of}
use Rattle.units.specs.declared.Refusal.{Refusal}
use Rattle.fields.specs.Bytes.{bytes, lf}
use Rattle.fields.specs.Names.{name_max}
use Rattle.fields.specs.WrittenLines.{decimal, joined, written_lines}
use Rattle.fields.proofs.SizeLaws.{decimal_size}
use Rattle.buffer.specs.Puts.{put_end, put_in}
use Rattle.buffer.proofs.PutLaws.{Due, due_all, due-room, due-next, put_is}
use Rattle.soc.specs.Record.{name_of}
use Rattle.soc.specs.declared.record.Soc.{Soc}
use Rattle.plan_record.specs.declared.record.Bus.{Bus}
use Rattle.plan_record.specs.declared.record.PlacedModule.{PlacedModule}
use Rattle.plan_record.specs.declared.record.BusPlan.{BusPlan}
use Rattle.plan_record.specs.Record.{buses_of, modules_of}
use Rattle.fields.proofs.LinesWritten.{written-append, front-more}
use Rattle.listing.specs.Listing.{refusal_fields, count_fields, soc_fields, bus_fields, bus_lines, module_fields, module_lines, lines_behind}
use Rattle.listing.specs.Room.{refusal_room, count_room, name_room, bus_room, module_room}
use Rattle.listing.specs.Rest.{rest_text}
use Rattle.listing.specs.Forms.{formed}

-- figures are below 2⁶⁴, which has 20 digits
abbrev pub figure_end : ℕ
figure_end = 18446744073709551616

figure_size : (v : ℕ) → v < figure_end → length (decimal v) ≤ 20
figure_size v h = decimal_size 19 v (omega arith)

pub name_size : (s : Soc) → s.name_len ≤ name_max → length (name_of s) ≤ name_max
name_size s h = simp length-take (omega arith)

module _ (r : Refusal) where
  refusal_text : written_lines (refusal_fields r ∷ []) ≡ bytes "refused " ++ decimal (number_of r.fault) ++ (bytes " line " ++ decimal r.line ++ lf ∷ [])
  unfolding refusal_fields written_lines joined
  refusal_text = simp append_assoc

  pub refusal_formed : written_lines (refusal_fields r ∷ []) ≡ formed (bytes "refused # line #\n") (number_of r.fault ∷ r.line ∷ [])
  unfolding formed
  refusal_formed = refusal_text

  pub refusal_size : number_of r.fault < figure_end → r.line < figure_end → length (written_lines (refusal_fields r ∷ [])) ≤ refusal_room
  refusal_size n l = rw refusal_text (simp length-append (omega (arith, figure_size (number_of r.fault) n, figure_size r.line l)))

module _ (p : BusPlan) where
  count-text : written_lines (count_fields p ∷ []) ≡ bytes "wires " ++ decimal p.wires.0 ++ (bytes " limit " ++ decimal p.limit ++ (bytes " time " ++ decimal p.time.0 ++ lf ∷ []))
  unfolding count_fields written_lines joined
  count-text = simp append_assoc

  pub count-formed : written_lines (count_fields p ∷ []) ≡ formed (bytes "wires # limit # time #\n") (p.wires.0 ∷ p.limit ∷ p.time.0 ∷ [])
  unfolding formed
  count-formed = count-text

  pub count_size : p.wires.0 < figure_end → p.limit < figure_end → p.time.0 < figure_end → length (written_lines (count_fields p ∷ [])) ≤ count_room
  count_size w b t = rw count-text (simp length-append (omega (arith, figure_size p.wires.0 w, figure_size p.limit b, figure_size p.time.0 t)))

  pub soc-text : (s : Soc) → written_lines (soc_fields s p ∷ []) ≡ bytes "soc " ++ (name_of s ++ (bytes " " ++ written_lines (count_fields p ∷ [])))
  unfolding soc_fields count_fields written_lines joined
  soc-text s = simp append_assoc

  pub soc_size : (s : Soc) → s.name_len ≤ name_max → p.wires.0 < figure_end → p.limit < figure_end → p.time.0 < figure_end → length (written_lines (soc_fields s p ∷ [])) ≤ name_room + count_room
  soc_size s n w b t = rw soc-text (simp length-append (omega (arith, name_size s n, count_size w b t)))

  -- `soc`, the name and a space are put: little room is used, and the rest of the line is due
  pub soc-front : (s : Soc) {at r1 r2 r3 : ℕ} {start b1 b2 b3 : List ℕ} → s.name_len ≤ name_max → at + length (written_lines (soc_fields s p ∷ [])) ≤ length start
      → (r1 ≡ put_end (bytes "soc ") at start) × (b1 ≡ put_in (bytes "soc ") at start)
      → (r2 ≡ put_end (name_of s) r1 b1) × (b2 ≡ put_in (name_of s) r1 b1)
      → (r3 ≡ put_end (bytes " ") r2 b2) × (b3 ≡ put_in (bytes " ") r2 b2)
      → (r3 ≤ at + name_room) × Due (written_lines (count_fields p ∷ [])) (written_lines (soc_fields s p ∷ [])) at start r3 b3
  soc-front s n h e1 e2 e3 =
      let d0 = due_all (soc-text s) h in
      let p1 = put_is (due-room (bytes "soc ") _ d0) e1 in
      let d1 = due-next (bytes "soc ") _ d0 p1 in
      let p2 = put_is (due-room (name_of s) _ d1) e2 in
      let d2 = due-next (name_of s) _ d1 p2 in
      let p3 = put_is (due-room (bytes " ") _ d2) e3 in
      (omega (arith, p1.behind, p2.behind, p3.behind, name_size s n), due-next (bytes " ") _ d2 p3)

  -- the text of a plan, part by part
  pub lines-text : (first : List (List ℕ)) → written_lines (lines_behind first p) ≡ written_lines (first ∷ []) ++ rest_text p
  unfolding lines_behind
  lines-text first =
      written-append (first ∷ []) (bus_lines 1 (buses_of p) ++ module_lines (modules_of p))
      ∙ ap (λ t. written_lines (first ∷ []) ++ t) (written-append (bus_lines 1 (buses_of p)) (module_lines (modules_of p)))

module _ (i : ℕ) (b : Bus) where
  bus-text : written_lines (bus_fields i b ∷ []) ≡ bytes "bus " ++ decimal i ++ (bytes " width " ++ decimal b.width.0 ++ (bytes " busy " ++ decimal b.busy.0 ++ lf ∷ []))
  unfolding bus_fields written_lines joined
  bus-text = simp append_assoc

  pub bus-formed : written_lines (bus_fields i b ∷ []) ≡ formed (bytes "bus # width # busy #\n") (i ∷ b.width.0 ∷ b.busy.0 ∷ [])
  unfolding formed
  bus-formed = bus-text

  pub bus_size : i < figure_end → b.width.0 < figure_end → b.busy.0 < figure_end → length (written_lines (bus_fields i b ∷ [])) ≤ bus_room
  bus_size n w t = rw bus-text (simp length-append (omega (arith, figure_size i n, figure_size b.width.0 w, figure_size b.busy.0 t)))

module _ (m : PlacedModule) where
  module_text : written_lines (module_fields m ∷ [])
      ≡ bytes "module " ++ decimal m.number ++ (bytes " bus " ++ decimal m.bus ++ (bytes " wires " ++ decimal m.wires.0
      ++ (bytes " cycles " ++ decimal m.cycles.0 ++ (bytes " start " ++ decimal m.start.0 ++ lf ∷ []))))
  unfolding module_fields written_lines joined
  module_text = simp append_assoc

  pub module_formed : written_lines (module_fields m ∷ [])
      ≡ formed (bytes "module # bus # wires # cycles # start #\n") (m.number ∷ m.bus ∷ m.wires.0 ∷ m.cycles.0 ∷ m.start.0 ∷ [])
  unfolding formed
  module_formed = module_text

  pub module_size : m.number < figure_end → m.bus < figure_end → m.wires.0 < figure_end → m.cycles.0 < figure_end
      → m.start.0 < figure_end → length (written_lines (module_fields m ∷ [])) ≤ module_room
  module_size n b w t s =
      rw module_text
      (simp length-append (omega (
        arith,
        figure_size m.number n,
        figure_size m.bus b,
        figure_size m.wires.0 w,
        figure_size m.cycles.0 t,
        figure_size m.start.0 s,
      )))

-- the text of buses, the first of which has number 1
abbrev pub buses_text : List Bus → List ℕ
buses_text bs = written_lines (bus_lines 1 bs)

buses-append : (i : ℕ) (xs ys : List Bus) → bus_lines i (xs ++ ys) ≡ bus_lines i xs ++ bus_lines (i + length xs) ys
unfolding bus_lines
buses-append i [] ys = let e : i ≡ i + 0 = omega arith in ap (λ n. bus_lines n ys) e
buses-append i (b ∷ xs) ys =
    let e : suc i + length xs ≡ i + suc (length xs) = omega arith in
    ap (λ ls. bus_fields i b ∷ ls) (buses-append (suc i) xs ys ∙ ap (λ n. bus_lines (suc i) xs ++ bus_lines n ys) e)

buses_adds : (xs ys : List Bus) → buses_text (xs ++ ys) ≡ buses_text xs ++ written_lines (bus_lines (1 + length xs) ys)
buses_adds xs ys = ap written_lines (buses-append 1 xs ys) ∙ written-append (bus_lines 1 xs) (bus_lines (1 + length xs) ys)

pub buses-more : (k : ℕ) (l : List Bus) (z : Bus) → k < length l → buses_text (take (k + 1) l) ≡ buses_text (take k l) ++ written_lines (bus_fields (k + 1) (get_or l k z) ∷ [])
unfolding bus_lines
buses-more k l z h =
    let n : length (take k l) ≡ k = length-take-le k l (omega arith) in
    let e : 1 + length (take k l) ≡ k + 1 = omega arith in
    front-more buses_text (λ xs ys. written_lines (bus_lines (1 + length xs) ys)) buses_adds k l z h ∙ ap (λ i. buses_text (take k l) ++ written_lines (bus_fields i (get_or l k z) ∷ [])) e

-- the text of modules
abbrev pub modules_text : List PlacedModule → List ℕ
modules_text ms = written_lines (module_lines ms)

modules-append : (xs ys : List PlacedModule) → module_lines (xs ++ ys) ≡ module_lines xs ++ module_lines ys
unfolding module_lines
modules-append [] ys = refl
modules-append (m ∷ xs) ys = ap (λ ls. module_fields m ∷ ls) (modules-append xs ys)

modules_adds : (xs ys : List PlacedModule) → modules_text (xs ++ ys) ≡ modules_text xs ++ modules_text ys
modules_adds xs ys = ap written_lines (modules-append xs ys) ∙ written-append (module_lines xs) (module_lines ys)

pub modules-more : (k : ℕ) (l : List PlacedModule) (z : PlacedModule) → k < length l → modules_text (take (k + 1) l) ≡ modules_text (take k l) ++ written_lines (module_fields (get_or l k z) ∷ [])
unfolding module_lines
modules-more k l z h = front-more modules_text (λ xs ys. modules_text ys) modules_adds k l z h
