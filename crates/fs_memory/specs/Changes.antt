-- The view after a record of changes, for the crates above.
unfoldable pub use Rattle.memory_record.specs.Changes.{empty_view, apply, view_of}
pub use Rattle.memory_record.specs.Changes.{root_meta, Was, IsSound, SoundSince}
