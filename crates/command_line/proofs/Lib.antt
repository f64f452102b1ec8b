pub mod WordsLeft
pub mod LinesTaken
pub mod DamageWords
pub mod ReceiveWords
pub mod SendWords
