pub mod StoreFile
