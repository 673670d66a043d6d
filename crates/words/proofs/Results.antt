-- Readings one after another, taken apart.
use Rattle.std.proofs.Common.{◌≡◌, Bool, true, false, cond, Ok, Err, Result, refl}
use Rattle.words.specs.Reading.{then, mapped}

pub never_ok : {X E P : Type 0} (e : E) (x : X) → ◌≡◌ {A = Result X E} (Err e) (Ok x) → P
never_ok e x p = cc

pub same_ok : {X E : Type 0} (x y : X) → ◌≡◌ {A = Result X E} (Ok x) (Ok y) → x ≡ y
same_ok x y p = cc

pub then_ok : {X Y E : Type 0} (r : Result X E) (f : X → Result Y E) (y : Y) → then r f ≡ Ok y → (x : X) × ((r ≡ Ok x) × (f x ≡ Ok y))
then_ok (Ok x) f y e = (x, (refl, e))
then_ok (Err b) f y e = never_ok b y e

pub mapped_ok : {X Y E : Type 0} (f : X → Y) (r : Result X E) (y : Y) → mapped f r ≡ Ok y → (x : X) × ((r ≡ Ok x) × (f x ≡ y))
mapped_ok f (Ok x) y e = (x, (refl, same_ok (f x) y e))
mapped_ok f (Err b) y e = never_ok b y e

-- the same, handed on by names, so that terms stay short
pub then_by : {X Y E P : Type 0} (r : Result X E) (f : X → Result Y E) (y : Y) → then r f ≡ Ok y → ((x : X) → r ≡ Ok x → f x ≡ Ok y → P) → P
then_by (Ok x) f y e k = k x refl e
then_by (Err b) f y e k = never_ok b y e

pub mapped_by : {X Y E P : Type 0} (f : X → Y) (r : Result X E) (y : Y) → mapped f r ≡ Ok y → ((x : X) → r ≡ Ok x → f x ≡ y → P) → P
mapped_by f (Ok x) y e k = k x refl (same_ok (f x) y e)
mapped_by f (Err b) y e k = never_ok b y e

pub passed : {X E : Type 0} (b : Bool) (x y : X) (d : E) → cond b (Ok x) (Err d) ≡ Ok y → (b ≡ true) × (x ≡ y)
passed true x y d e = (refl, same_ok x y e)
passed false x y d e = never_ok d y e

pub mapped_err : {X Y E : Type 0} (f : X → Y) (r : Result X E) (e : E) → Err e ≡ mapped f r → r ≡ Err e
mapped_err f (Ok x) e p = cc
mapped_err f (Err d) e p = cc
