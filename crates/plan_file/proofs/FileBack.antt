-- Laws of a plan file written and read: a good file is the file of what it says, and the file of a good plan is read to that plan.
-- Assumes nothing.
use Prim.Native.Nat.{ℕ, ◌+◌, ◌*◌, ◌^◌, ◌≤◌, ◌<◌}
use mathlib.Core.Path.{◌≡◌, refl, sym}
use mathlib.Core.Bool.{true}
use mathlib.Core.List.{List, [], ◌∷◌, ◌++◌}
use borrow.Author.Tests.{le-leb, eq-eqb, eqb-true}
use native.Mathlib.Omega.{arith}
use lib.ListN.{length, get_or, length-append, take, drop}
use lib.Seq.{get_or-take, take_all, take-add}
use Rattle.std.specs.Prelude.{Ok}
use Rattle.units.specs.Places.{padded}
use Rattle.units.proofs.TestLaws.{and_holds, and_both}
use Rattle.units.proofs.PlaceLaws.{padded-take}
use Rattle.little_endian.specs.Little.{little, byte, number_at}
use Rattle.little_endian.specs.Rows.{each, rows}
use Rattle.little_endian.proofs.StandLaws.{Stands, stands_whole, stands_first, stands_behind, number_stands, number-first, rows_stand, all_stand}
use Rattle.little_endian.proofs.LittleLaws.{AreBytes, part-number, part_join}
use Rattle.little_endian.proofs.RowLaws.{rows-length}
use Rattle.plan_record.specs.Record.{bus_places, module_places, no_bus, no_placed, modules_of, buses_of}
use Rattle.plan_record.specs.declared.record.Bus.{Bus}
use Rattle.plan_record.specs.declared.record.PlacedModule.{PlacedModule}
use Rattle.plan_record.specs.declared.record.BusPlan.{BusPlan}
use Rattle.plan_record.specs.Good.{good_plan}
use Rattle.plan_record.specs.Whole.{Whole}
use Rattle.plan_record.proofs.GoodPlanLaws.{good-figures, good-busy, good-time}
use Rattle.plan_record.proofs.StartLaws.{good-end}
use Rattle.plan_file.specs.Bytes.{module_stride, bus_stride, trailer_length, file_length, module_bytes, bus_bytes, trailer_bytes, file_bytes}
use Rattle.plan_file.specs.Puts.{SmallTrailer}
use Rattle.plan_file.specs.Files.{module_at, bus_at, module_count, bus_count, bus_offset, trailer, plan_in, read_answer, zero_module, zero_bus}
use Rattle.plan_file.specs.Files.{zero_modules, zero_buses, good_length, good_offsets, good_file}
use Rattle.plan_file.proofs.FileLaws.{module_length_lem, bus-length, modules-count, buses-count, modules_length, buses_length}
use Rattle.plan_file.proofs.FileLaws.{file-length, good-small}
use Rattle.plan_file.proofs.ReadLaws.{answer-accepted, Fitting, length-fits}
use Rattle.plan_file.proofs.SpareLaws.{buses-spare, modules-spare}
use Rattle.plan_file.proofs.BytesBack.{byte_stands, module_stands, module_zero, bus_stands, bus-zero, part-figures, modules_back}
use Rattle.plan_file.proofs.BytesBack.{buses_back}

-- the parts of a good file
record FileParts (f : List ℕ) : Type 0 where
  fits : Fitting f
  plan : good_plan (plan_in f) ≡ true
  modules : zero_modules f (module_count f) ≡ true
  buses : zero_buses f (bus_count f) (bus_offset f) ≡ true
  first : number_at 2 f (trailer f) ≡ 0
  second : number_at 2 f (trailer f + 2) ≡ bus_offset f

file_parts : (f : List ℕ) → good_file f ≡ true → FileParts f
unfolding good_file good_offsets
file_parts f e =
    let a = and_both _ _ e in
    let b = and_both _ _ a.1 in
    let d = and_both _ _ b.1 in
    let g = and_both _ _ d.1 in
    let h = and_both _ _ g.1 in
    record {
      fits = length-fits f a.0;
      plan = b.0;
      modules = d.0;
      buses = g.0;
      first = eqb-true (number_at 2 f (trailer f)) 0 h.0;
      second = eqb-true (number_at 2 f (trailer f + 2)) (bus_offset f) h.1;
    }

-- the places in use
padded-front : {A : Type 0} (n : ℕ) (z : A) (read : ℕ → A) (step k at : ℕ) → take k (padded n z (rows read step k at)) ≡ rows read step k at
padded-front n z read step k at = rw (rows-length read step k at) at (padded-take n z (rows read step k at))

file_join : (f : List ℕ) (m b t e : ℕ) → t ≡ m + b → length f ≡ m + b + e → take m (drop 0 f) ++ take b (drop m f) ++ take e (drop t f) ≡ f
file_join f m b t e i l = rw (i, ← take-add m b f, ← take-add (m + b) e f) (take_all (m + b + e) f (omega arith))

-- the bytes of what a good file says are its own
module _ (f : List ℕ) (b : AreBytes f) (p : FileParts f) where
  modules-file : each module_bytes (modules_of (plan_in f)) ≡ take (module_stride * module_count f) (drop 0 f)
  unfolding plan_in
  modules-file =
      let w = p.fits in
      rw (padded-front module_places no_placed (module_at f) module_stride (module_count f) 0)
      (modules_back f b (module_count f) (omega arith) p.modules)

  buses-file : each bus_bytes (buses_of (plan_in f)) ≡ take (bus_stride * bus_count f) (drop (bus_offset f) f)
  unfolding plan_in
  buses-file =
      let w = p.fits in
      rw (padded-front bus_places no_bus (bus_at f) bus_stride (bus_count f) (bus_offset f))
      (buses_back f b (bus_count f) (bus_offset f) (omega arith) p.buses)

  trailer-file : trailer_bytes (plan_in f) ≡ take trailer_length (drop (trailer f) f)
  unfolding trailer_bytes plan_in
  trailer-file =
      let t = trailer f in
      let w = p.fits in
      let z : little 2 0 ≡ take 2 (drop t f) = rw p.first at (part-number f 2 t (omega arith) b) in
      let o : little 2 (bus_offset f) ≡ take 2 (drop (t + 2) f) = rw p.second at (part-number f 2 (t + 2) (omega arith) b) in
      let e1 : t + 4 + 1 ≡ t + 5 = omega arith in
      let e2 : t + 4 + 2 ≡ t + 6 = omega arith in
      let e3 : t + 4 + 3 ≡ t + 7 = omega arith in
      let e4 : t + 4 + 4 ≡ t + 8 = omega arith in
      let figures = byte f (t + 4) ∷ byte f (t + 5) ∷ byte f (t + 6) ∷ byte f (t + 7) ∷ little 8 (number_at 8 f (t + 8)) in
      let r : figures ≡ take 12 (drop (t + 4) f) = rw (e1, e2, e3, e4) at (part-figures f b (t + 4) (omega arith)) in
      rw (z, o, r, part_join f 2 2 t) (part_join f 4 12 t)

-- a good file is the file of what it says
pub back_file : (f : List ℕ) → AreBytes f → good_file f ≡ true → file_bytes (plan_in f) ≡ f
unfolding file_bytes
back_file f b e =
    let p = file_parts f e in
    let w = p.fits in
    rw (modules-file f b p, buses-file f b p, trailer-file f b p)
    (file_join f (bus_offset f) (bus_stride * bus_count f) (trailer f) trailer_length (omega arith) (omega arith))

-- figures that fit their 8 bytes
abbrev LongModule : PlacedModule → Type 0
LongModule x = (x.cycles.0 < 256 ^ 8) × (x.start.0 < 256 ^ 8)

abbrev LongBus : Bus → Type 0
LongBus x = x.busy.0 < 256 ^ 8

-- what the trailer says, where it stands
record TrailerIs (p : BusPlan) (f : List ℕ) (t : ℕ) : Type 0 where
  first : number_at 2 f t ≡ 0
  second : number_at 2 f (t + 2) ≡ module_stride * p.module_count
  wires : byte f (t + 4) ≡ p.wires.0
  limit : byte f (t + 5) ≡ p.limit
  buses : byte f (t + 6) ≡ p.bus_count
  modules : byte f (t + 7) ≡ p.module_count
  time : number_at 8 f (t + 8) ≡ p.time.0

trailer_stands : (p : BusPlan) (f : List ℕ) (t : ℕ) → SmallTrailer p → p.time.0 < 256 ^ 8 → Stands (trailer_bytes p) f t → TrailerIs p f t
unfolding trailer_bytes little
trailer_stands p f t m h s =
    let o = module_stride * p.module_count in
    let figures = p.wires.0 ∷ p.limit ∷ p.bus_count ∷ p.module_count ∷ [] in
    let time = little 8 p.time.0 in
    let second = stands_behind (little 2 0) (little 2 o ++ figures ++ time) 2 (t + 2) refl refl s in
    record {
      first = number-first 2 0 (little 2 o ++ figures ++ time) (omega arith) s;
      second = number-first 2 o (figures ++ time) (omega arith) second;
      wires = byte_stands 4 s;
      limit = byte_stands 5 s;
      buses = byte_stands 6 s;
      modules = byte_stands 7 s;
      time = number_stands 8 p.time.0 h (stands_behind (little 2 0 ++ little 2 o ++ figures) time 8 (t + 8) refl refl s);
    }

module _ (p : BusPlan) (w : Whole p) (e : good_plan p ≡ true) where
  abbrev file : List ℕ
  file = file_bytes p

  abbrev offset : ℕ
  offset = module_stride * p.module_count

  small : SmallTrailer p
  small = (good-small p e).trailer

  long-modules : (i : ℕ) → i < length (modules_of p) → LongModule (get_or (modules_of p) i no_placed)
  long-modules i h =
      let k : i < p.module_count = omega (arith, modules-count p w small) in
      rw (get_or-take p.module_count p.modules i no_placed k)
      (omega (arith, (good-figures p e).cycles i k), omega (arith, good-end p w e i k, good-time p w e))

  long-buses : (i : ℕ) → i < length (buses_of p) → LongBus (get_or (buses_of p) i no_bus)
  long-buses i h = omega (arith, good-busy p w e i h)

  -- the parts of the file, at their offsets
  records_stand : Stands (each module_bytes (modules_of p) ++ each bus_bytes (buses_of p)) file 0
  unfolding file_bytes
  records_stand = stands_first _ (trailer_bytes p) (stands_whole file)

  modules_stand : Stands (each module_bytes (modules_of p)) file 0
  modules_stand = stands_first (each module_bytes (modules_of p)) (each bus_bytes (buses_of p)) records_stand

  buses_stand : Stands (each bus_bytes (buses_of p)) file offset
  buses_stand = stands_behind (each module_bytes (modules_of p)) _ offset offset (modules_length p w small) (omega arith) records_stand

  trailer-is : TrailerIs p file (trailer file)
  unfolding file_bytes
  trailer-is =
      let front = each module_bytes (modules_of p) ++ each bus_bytes (buses_of p) in
      let l : length front ≡ offset + bus_stride * p.bus_count = rw (length-append, modules_length p w small, buses_length p w small) in
      trailer_stands p file (trailer file) small (omega (arith, good-time p w e))
      (stands_behind front (trailer_bytes p) _ (trailer file) l (omega (arith, file-length p w e)) (stands_whole file))

  -- its records
  modules-read : rows (module_at file) module_stride p.module_count 0 ≡ modules_of p
  modules-read =
      rw (modules-count p w small) at
      (rows_stand module_bytes module_stride LongModule (λ x h. module_length_lem x) file no_placed
      (module_at file) (λ x at h s. module_stands x file at s h.0 h.1) (modules_of p) 0 long-modules modules_stand)

  buses-read : rows (bus_at file) bus_stride p.bus_count offset ≡ buses_of p
  buses-read =
      rw (buses-count p w small) at
      (rows_stand bus_bytes bus_stride LongBus (λ x h. bus-length x) file no_bus
      (bus_at file) (λ x at h s. bus_stands x file at s h) (buses_of p) offset long-buses buses_stand)

  modules-zero : zero_modules file p.module_count ≡ true
  modules-zero =
      rw (modules-count p w small) at
      (all_stand module_bytes module_stride LongModule (λ x h. module_length_lem x) file no_placed
      (zero_module file) (λ x at h s. module_zero x file at s) (modules_of p) 0 long-modules modules_stand)

  buses-zero : zero_buses file p.bus_count offset ≡ true
  buses-zero =
      rw (buses-count p w small) at
      (all_stand bus_bytes bus_stride LongBus (λ x h. bus-length x) file no_bus
      (zero_bus file) (λ x at h s. bus-zero x file at s) (buses_of p) offset long-buses buses_stand)

  -- what the file says
  pub plan_back : plan_in file ≡ p
  unfolding plan_in
  plan_back =
      let t = trailer-is in
      let b : padded bus_places no_bus (rows (bus_at file) bus_stride (bus_count file) (bus_offset file)) ≡ p.buses =
      rw (t.buses, t.modules, buses-read) (buses-spare p w e) in
      let m : padded module_places no_placed (rows (module_at file) module_stride (module_count file) 0) ≡ p.modules =
      rw (t.modules, modules-read) (modules-spare p w e) in
      rw (b, m, t.buses, t.modules, t.wires, t.limit, t.time)

  file-good : good_file file ≡ true
  unfolding good_file good_length good_offsets
  file-good =
      let t = trailer-is in
      let l = file-length p w e in
      let m : module_count file ≤ module_places = rw t.modules small.modules in
      let b : bus_count file ≤ bus_places = rw t.buses small.buses in
      let n : length file ≡ file_length (module_count file) (bus_count file) = rw (t.modules, t.buses) l in
      let o : number_at 2 file (trailer file + 2) ≡ bus_offset file = rw t.modules t.second in
      let x : zero_modules file (module_count file) ≡ true = rw t.modules modules-zero in
      let y : zero_buses file (bus_count file) (bus_offset file) ≡ true = rw (t.modules, t.buses) buses-zero in
      let g : good_plan (plan_in file) ≡ true = rw plan_back e in
      let k : trailer_length ≤ length file = omega arith in
      and_holds (and_holds (le-leb _ _ k) (and_holds (le-leb _ _ m) (and_holds (le-leb _ _ b) (eq-eqb _ _ n))))
      (and_holds g (and_holds x (and_holds y (and_holds (eq-eqb _ _ t.first) (eq-eqb _ _ o)))))

  -- the file of a good plan is read to that plan
  pub file_back : read_answer file ≡ Ok p
  file_back = rw plan_back at (sym (answer-accepted file file-good))
