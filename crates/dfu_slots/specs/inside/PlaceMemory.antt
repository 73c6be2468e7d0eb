-- Offsets of the two slots, which a store caches.
use Rattle.std.specs.Prelude.{◌≡◌, ℕ}
use Rattle.dfu_slots.specs.Image.{gate_of, active_at, spare_at}
use Rattle.dfu_slots.specs.StoreView.{SlotsState}
use Rattle.dfu_slots.specs.Store.{IsStore}

-- The cached offsets are those of the store's active slot and of its spare slot.
pub record RemembersPlaces (s : SlotsState) (active spare : ℕ) : Type 0 where
  pub store : IsStore s
  pub active_there : active ≡ active_at (gate_of s.medium) s.medium.bytes
  pub spare_there : spare ≡ spare_at (gate_of s.medium) s.medium.bytes
