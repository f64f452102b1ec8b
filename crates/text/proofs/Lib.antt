pub mod LineEnds
pub mod HexReading
pub mod HexRoundTrip
pub mod HexWriting
pub mod ScreenSigns
pub mod Numbers
pub mod Words
